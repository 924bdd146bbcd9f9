-- What holds of values and bodies (own).
use Rattle.std.specs.Prelude.{◌≡◌, ℕ, ◌+◌, ◌^◌, ◌≤◌, ◌<◌, List, [], Some, slice_get, pos, unsigned_abs}
use Rattle.tdf_fixed.specs.declared.raw.Raw.{Raw}
use Rattle.tdf_expr_semantics.specs.Bodies.{after_all, with_element}
use Rattle.tdf_expr_semantics.specs.Fits.{StateFits, LoopsFit}
use Rattle.tdf_expr_semantics.specs.Places.{HasElement}
use Rattle.tdf_expr_semantics.specs.Value.{value, index_value, element, cast_in}
use Rattle.tdf_expr_symbols.specs.Faults.{expr_faults, stmts_faults}
use Rattle.tdf_expr_symbols.specs.Index.{index_faults, size_of}
use Rattle.tdf_expr_symbols.specs.Names.{Names, Thing, Var, Array, Port, shape_of}
use Rattle.tdf_expr_symbols.specs.Scope.{Scope, OpenLoop, greatest_of}
use Rattle.tdf_expr_symbols.specs.Sound.{IsSound}
use Rattle.tdf_expr_symbols.specs.Width.{Width, width}
use Rattle.tdf_expr_symbols.specs.declared.kinds.Part.{Part}
use Rattle.tdf_expr_state.specs.State.{State}
use Rattle.tdf_lang_tree.specs.Pure.{PureExpr, PureStmts}
use Rattle.tdf_lang_tree.specs.declared.expr.Index.{Index}
use Rattle.tdf_lang_tree.specs.declared.stmt.Limit.{Limit}

-- the value is k / 2 ^ F with -2 ^ (I + F) <= k <= 2 ^ (I + F)
pub record IsWithinWidth (w : Width) (a : Raw) : Type 0 where
  pub frac : a.frac ≡ w.part
  pub within : unsigned_abs a.num ≤ 2 ^ (w.whole + w.part)

-- an expression without a fault lies within its width in every state that fits
abbrev pub LiesWithinWidth : Type 0
LiesWithinWidth = (scope : Scope) (loops : List OpenLoop) (body : Part) (line : ℕ) (e : PureExpr)
    (turns : List ℕ) (s : State) → IsSound scope → expr_faults scope loops body line e ≡ []
    → StateFits scope.own s → LoopsFit scope.own loops turns
    → IsWithinWidth (width scope loops e) (value scope loops turns s e)

-- statements without a fault leave a state that fits
abbrev pub KeepsFits : Type 0
KeepsFits = (scope : Scope) (loops : List OpenLoop) (body : Part) (ss : PureStmts) (turns : List ℕ)
    (s : State) → IsSound scope → stmts_faults scope body loops ss ≡ []
    → StateFits scope.own s → LoopsFit scope.own loops turns
    → StateFits scope.own (after_all scope loops turns ss s)

-- the values of a block's names are a map from names and elements to values: an assignment changes
-- the value of its element, cast to the element's format, and no other
abbrev pub IsAssignable : Thing → Type 0
IsAssignable (Var (Some shape) start) = Unit {0}
IsAssignable (Array (Some shape) size starts) = Unit {0}
IsAssignable (Port word (Some shape) rate delay) = Unit {0}
IsAssignable t = ⊥

pub record IsMap (own : Names) (s : State) (n k : ℕ) (t : Thing) (v : Raw) : Type 0 where
  pub same : element own (with_element own n t k v s) n t k ≡ cast_in (shape_of t) v
  pub other : (m j : ℕ) (u : Thing) → slice_get own.things m ≡ Some u → HasElement own u j
      → (n ≡ m → k ≡ j → ⊥) → element own (with_element own n t k v s) m u j ≡ element own s m u j

abbrev pub AreMaps : Type 0
AreMaps = (own : Names) (s : State) (n k : ℕ) (t : Thing) (v : Raw) → StateFits own s
    → slice_get own.things n ≡ Some t → IsAssignable t → HasElement own t k → IsMap own s n k t v

-- an index without a fault is a whole number below the greatest size
pub record IsIndex (own : Names) (loops : List OpenLoop) (turns : List ℕ) (i : Index) (size : Limit)
    : Type 0 where
  pub place : ℕ
  pub is : index_value loops turns i ≡ pos place
  pub below : place < greatest_of own size

abbrev pub LiesInside : Type 0
LiesInside = (scope : Scope) (loops : List OpenLoop) (line : ℕ) (t : Thing) (size : Limit)
    (i : Index) (turns : List ℕ) → IsSound scope → size_of (Some t) ≡ Some size
    → index_faults scope loops line (Some t) i ≡ [] → LoopsFit scope.own loops turns
    → IsIndex scope.own loops turns i size
