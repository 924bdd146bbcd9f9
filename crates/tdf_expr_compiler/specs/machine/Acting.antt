-- What the compiler of statements gives, where they have no fault.
use Rattle.std.specs.Prelude.{◌≡◌, ℕ, ◌+◌, ◌*◌, ◌≤◌, ◌<◌, List, [], length, Option, Some, pos, slice_get}
use Rattle.tdf_expr_compiler.specs.Promises.{Performed, Performs, PerformsAll}
use Rattle.tdf_expr_compiler.specs.machine.Computed.{IsAt}
use Rattle.tdf_fixed.specs.declared.raw.Raw.{Raw}
use Rattle.tdf_expr_machine.specs.Acts.{acted, turns_end, AreTurns, IsSafeAct}
use Rattle.tdf_expr_machine.specs.Nodes.{node_value, spot_place, IsCastable, IsSafe, IsSpot}
use Rattle.tdf_expr_machine.specs.Sequences.{acted_all, AreSafeAll}
use Rattle.tdf_expr_machine.specs.declared.acts.Act.{Act}
use Rattle.tdf_expr_machine.specs.declared.acts.Turns.{Turns}
use Rattle.tdf_expr_machine.specs.declared.nodes.Node.{Node}
use Rattle.tdf_expr_machine.specs.declared.spots.Spot.{Spot}
use Rattle.tdf_expr_semantics.specs.Bodies.{after_all, limit_value, rate_of, rate_set, target_index, with_element}
use Rattle.tdf_expr_semantics.specs.Fits.{StateFits, LoopsFit}
use Rattle.tdf_expr_semantics.specs.Value.{cast_number}
use Rattle.tdf_expr_symbols.specs.Faults.{limit_faults, shape_in, stmt_faults, stmts_faults}
use Rattle.tdf_expr_symbols.specs.Names.{Names, Thing, Var, Array, Port, RateVar, thing_of}
use Rattle.tdf_expr_symbols.specs.Scope.{Scope, OpenLoop, greatest_of}
use Rattle.tdf_expr_symbols.specs.Sound.{IsSound}
use Rattle.tdf_expr_symbols.specs.Width.{fraction_bits}
use Rattle.tdf_expr_symbols.specs.declared.kinds.Part.{Part}
use Rattle.tdf_expr_state.specs.State.{State, with_cell, with_sample}
use Rattle.tdf_lang_tree.specs.Kept.{KeepsStmt, KeepsStmts}
use Rattle.tdf_lang_tree.specs.Pure.{PureStmt, PureStmts, Done, More}
use Rattle.tdf_lang_tree.specs.declared.expr.Index.{Index}
use Rattle.tdf_lang_tree.specs.declared.shapes.Shape.{Shape}
use Rattle.tdf_lang_tree.specs.declared.stmt.Limit.{Limit}

-- a statement without a fault in some body, with room for the loops that are nested in it
pub record IsFine (scope : Scope) (loops : List OpenLoop) (stmt : PureStmt) : Type 0 where
  pub body : Part
  pub none : stmt_faults scope body loops stmt ≡ []
  pub depth : ℕ
  pub nested : KeepsStmt depth stmt
  pub room : depth + length loops ≤ 8
  pub sound : IsSound scope

pub record AreFine (scope : Scope) (loops : List OpenLoop) (ss : PureStmts) : Type 0 where
  pub body : Part
  pub none : stmts_faults scope body loops ss ≡ []
  pub depth : ℕ
  pub nested : KeepsStmts depth ss
  pub room : depth + length loops ≤ 8
  pub sound : IsSound scope

pub record Acts (scope : Scope) (loops : List OpenLoop) (stmt : PureStmt) (act : Act) : Type 0 where
  pub performs : IsFine scope loops stmt → Performs scope loops stmt act

pub record ActsAll (scope : Scope) (loops : List OpenLoop) (ss : PureStmts) (act : Act)
    : Type 0 where
  pub performs : AreFine scope loops ss → PerformsAll scope loops ss act

-- the code of statements, one act for each
pub record AreActs (scope : Scope) (loops : List OpenLoop) (ss : PureStmts) (acts : List Act)
    : Type 0 where
  pub at : AreFine scope loops ss → (turns : List ℕ) (s : State) → StateFits scope.own s
      → LoopsFit scope.own loops turns
      → AreSafeAll acts turns s × (acted_all acts turns s ≡ after_all scope loops turns ss s)

-- statements one list after another
abbrev pub joined : PureStmts → PureStmts → PureStmts
joined Done ts = ts
joined (More s ss) ts = More s (joined ss ts)

-- the place of what is assigned: of a bare name, element 0
pub record IsTarget (loops : List OpenLoop) (at : ℕ) (index : Option Index) (spot : Spot)
    : Type 0 where
  pub stands : (scope : Scope) (turns : List ℕ) (s : State) → IsAt scope loops turns s → (k : ℕ)
      → target_index loops turns index ≡ pos k → k < 4096
      → IsSpot spot turns × (spot_place spot turns ≡ at + k)

-- what the code of an expression gives, with so many bits after the point
abbrev pub raw_of : Node → ℕ → List ℕ → State → Raw
raw_of node part turns s = record { num = node_value node s turns; frac = part }

-- a value that is cast into a cell, and into a sample of a port, where there is a format
pub record SetsCell (format : Option Shape) (spot : Spot) (node : Node) (part : ℕ) (act : Act)
    : Type 0 where
  pub same : (shape : Shape) → format ≡ Some shape → (turns : List ℕ) (s : State)
      → acted act turns s
      ≡ with_cell (spot_place spot turns) (cast_number shape (raw_of node part turns s)) s
  pub safe : (shape : Shape) → format ≡ Some shape → (turns : List ℕ) (s : State)
      → IsSafe node s turns → IsCastable (node_value node s turns) part (fraction_bits shape)
      → IsSpot spot turns → spot_place spot turns < length s.frame.cells → IsSafeAct act turns s

pub record SetsSample (format : Option Shape) (port : ℕ) (spot : Spot) (node : Node) (part : ℕ)
    (act : Act) : Type 0 where
  pub same : (shape : Shape) → format ≡ Some shape → (turns : List ℕ) (s : State)
      → acted act turns s
      ≡ with_sample port (spot_place spot turns) (cast_number shape (raw_of node part turns s)) s
  pub safe : (shape : Shape) → format ≡ Some shape → (turns : List ℕ) (s : State)
      → IsSafe node s turns → IsCastable (node_value node s turns) part (fraction_bits shape)
      → IsSpot spot turns → spot_place spot turns < length s.ports.samples
      → port < length s.ports.assigned → IsSafeAct act turns s

-- element k of a name is there
abbrev pub HasElement : Names → Thing → ℕ → Type 0
HasElement own (Var shape start) k = k < 1
HasElement own (Array shape size starts) k = k < size
HasElement own (Port word shape rate delay) k = k < greatest_of own rate
HasElement own t k = Unit {0}

-- an assignment to element k of the n-th name, where there is one
pub record Sets (scope : Scope) (loops : List OpenLoop) (n : ℕ) (t : Thing) (index : Option Index)
    (node : Node) (part : ℕ) (act : Act) : Type 0 where
  pub at : (turns : List ℕ) (s : State) → IsAt scope loops turns s
      → slice_get scope.own.things n ≡ Some t
      → (k : ℕ) → target_index loops turns index ≡ pos k → HasElement scope.own t k
      → IsSafe node s turns
      → ((shape : Shape) → shape_in (Some t) ≡ Some shape
      → IsCastable (node_value node s turns) part (fraction_bits shape))
      → Performed act turns s (with_element scope.own n t k (raw_of node part turns s) s)

-- where a loop ends
pub record IsEnd (scope : Scope) (loops : List OpenLoop) (limit : Limit) (turns : Turns)
    : Type 0 where
  pub at : (line : ℕ) (s : State) → IsSound scope → limit_faults scope loops line limit ≡ []
      → StateFits scope.own s
      → AreTurns turns s.frame.rates
      × (turns_end turns s.frame.rates ≡ limit_value scope.own s limit)

-- a value that goes into the n-th name, where that is a rate variable
pub record SetsRate (scope : Scope) (loops : List OpenLoop) (n : ℕ) (t : Thing) (node : Node)
    (part : ℕ) (act : Act) : Type 0 where
  pub at : (turns : List ℕ) (s : State) → IsAt scope loops turns s
      → slice_get scope.own.things n ≡ Some t → IsSafe node s turns → part ≤ 120
      → Performed act turns s (rate_set scope.own (Some n) (Some t) (raw_of node part turns s) s)

-- a loop that ends at a multiple of a rate variable
pub record IsRateEnd (scope : Scope) (factor : ℕ) (name : List ℕ) (turns : Turns) : Type 0 where
  pub at : (least greatest start : ℕ)
      → thing_of scope.own name ≡ Some (RateVar least greatest start) → greatest ≤ 4096
      → factor ≤ 4096
      → (s : State) → StateFits scope.own s
      → AreTurns turns s.frame.rates
      × (turns_end turns s.frame.rates ≡ factor * rate_of scope.own s name)
