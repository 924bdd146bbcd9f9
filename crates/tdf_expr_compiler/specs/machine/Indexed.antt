-- Where compiled elements stand.
use Rattle.std.specs.Prelude.{◌≡◌, ℕ, ◌+◌, ◌-◌, ◌*◌, ◌<◌, ◌≤◌, List, length, Option, Some, None, pos, slice_index}
use Rattle.tdf_expr_machine.specs.Nodes.{IsSpot, spot_place}
use Rattle.tdf_expr_machine.specs.declared.spots.Spot.{Spot}
use Rattle.tdf_expr_semantics.specs.Value.{index_value, turn_of}
use Rattle.tdf_expr_symbols.specs.Scope.{OpenLoop}
use Rattle.tdf_lang_tree.specs.declared.expr.Index.{Index}

-- as many turns as loops, at most 8, each below 4096
pub record AreTurns (loops : List OpenLoop) (turns : List ℕ) : Type 0 where
  pub long : length turns ≡ length loops
  pub few : length loops ≤ 8
  pub small : (d : ℕ) → d < length loops → slice_index turns d < 4096

-- the turn of a loop variable, 0 where there is none
abbrev pub turn_or_none : Option ℕ → ℕ
turn_or_none None = 0
turn_or_none (Some turn) = turn

abbrev pub turn_in : List OpenLoop → List ℕ → List ℕ → ℕ
turn_in loops turns name = turn_or_none (turn_of loops turns name)

-- the place `at + times * turn - less`
pub record IsRisen (loops : List OpenLoop) (name : List ℕ) (at times less : ℕ) (spot : Spot)
    : Type 0 where
  pub stands : (turns : List ℕ) → AreTurns loops turns → less ≤ times * turn_in loops turns name
      → IsSpot spot turns × (spot_place spot turns ≡ at + times * turn_in loops turns name - less)

-- the place `at - turn`
pub record IsFallen (loops : List OpenLoop) (name : List ℕ) (at : ℕ) (spot : Spot) : Type 0 where
  pub stands : (turns : List ℕ) → AreTurns loops turns → turn_in loops turns name ≤ at
      → IsSpot spot turns × (spot_place spot turns ≡ at - turn_in loops turns name)

-- the place of element k, where the index is k
pub record IsSpotOf (loops : List OpenLoop) (at : ℕ) (i : Index) (spot : Spot) : Type 0 where
  pub stands : (turns : List ℕ) → AreTurns loops turns → (k : ℕ)
      → index_value loops turns i ≡ pos k → k < 4096
      → IsSpot spot turns × (spot_place spot turns ≡ at + k)
