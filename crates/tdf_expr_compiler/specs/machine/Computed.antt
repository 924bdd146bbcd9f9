-- What the compiler of expressions gives, where they have no fault.
use Rattle.std.specs.Prelude.{◌≡◌, ℕ, ◌≤◌, List, [], length}
use Rattle.tdf_expr_machine.specs.Nodes.{node_value, IsSafe}
use Rattle.tdf_expr_machine.specs.declared.nodes.Node.{Node}
use Rattle.tdf_expr_semantics.specs.Fits.{StateFits, LoopsFit}
use Rattle.tdf_expr_semantics.specs.Value.{value}
use Rattle.tdf_expr_symbols.specs.Faults.{expr_faults}
use Rattle.tdf_expr_symbols.specs.Scope.{Scope, OpenLoop}
use Rattle.tdf_expr_symbols.specs.Sound.{IsSound}
use Rattle.tdf_expr_symbols.specs.Width.{width}
use Rattle.tdf_expr_symbols.specs.declared.kinds.Part.{Part}
use Rattle.tdf_expr_state.specs.State.{State}
use Rattle.tdf_lang_tree.specs.Pure.{PureExpr}

-- a state that fits, and turns of loops that are at most 8 deep
pub record IsAt (scope : Scope) (loops : List OpenLoop) (turns : List ℕ) (s : State) : Type 0 where
  pub sound : IsSound scope
  pub few : length loops ≤ 8
  pub state : StateFits scope.own s
  pub running : LoopsFit scope.own loops turns

-- in this state the code is safe and gives the value
pub record Gives (scope : Scope) (loops : List OpenLoop) (e : PureExpr) (node : Node)
    (turns : List ℕ) (s : State) : Type 0 where
  pub safe : IsSafe node s turns
  pub num : node_value node s turns ≡ (value scope loops turns s e).num

-- the code has so many bits after the point, and gives the value in each state that fits
pub record Computes (scope : Scope) (loops : List OpenLoop) (e : PureExpr) (node : Node) (part : ℕ)
    : Type 0 where
  pub part_is : (body : Part) (line : ℕ) → expr_faults scope loops body line e ≡ []
      → part ≡ (width scope loops e).part
  pub gives : (body : Part) (line : ℕ) (turns : List ℕ) (s : State)
      → expr_faults scope loops body line e ≡ [] → IsAt scope loops turns s
      → Gives scope loops e node turns s
