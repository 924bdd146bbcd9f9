-- Assignments of values that are read straight from the cells, at the innermost of some loops.
use Rattle.std.specs.Int.{w64}
use Rattle.std.specs.Prelude.{◌≡◌, ◌≢◌, ℕ, ◌+◌, ◌-◌, ◌^◌, ◌<◌, ◌≤◌, ℤ, pos, ◌+ℤ◌, ◌*ℤ◌, true, false, if◌then◌else◌, List, [], ◌∷◌, ◌++◌, length, unsigned_abs, FitsSigned}
use Rattle.tdf_fixed.specs.Overflow.{IsOfWidth}
use Rattle.tdf_fixed.specs.Quantise.{below}
use Rattle.tdf_expr_machine.specs.Acts.{acted, IsSafeAct}
use Rattle.tdf_expr_machine.specs.Nodes.{node_value, spot_place, IsSafe, IsSpot}
use Rattle.tdf_expr_machine.specs.declared.acts.Act.{Act}
use Rattle.tdf_expr_machine.specs.declared.nodes.Node.{Node}
use Rattle.tdf_expr_machine.specs.declared.plain.InnerProduct.{InnerProduct}
use Rattle.tdf_expr_machine.specs.declared.plain.Plain.{Plain}
use Rattle.tdf_expr_machine.specs.declared.plain.Plain.TheVariants as plain
use Rattle.tdf_expr_machine.specs.declared.plain.PlainSet.{PlainSet}
use Rattle.tdf_expr_machine.specs.declared.plain.RowCopy.{RowCopy}
use Rattle.tdf_expr_machine.specs.declared.plain.Target.{Target}
use Rattle.tdf_expr_machine.specs.declared.plain.Target.TheVariants as target
use Rattle.tdf_expr_machine.specs.declared.plain.Terms.{Terms}
use Rattle.tdf_expr_machine.specs.declared.plain.Track.{Track}
use Rattle.tdf_expr_machine.specs.declared.spots.Spot.{Spot}
use Rattle.tdf_expr_machine.specs.machine.Steps.{IsShortRaised, StepsFit}
use Rattle.tdf_expr_state.specs.State.{State, cell_at, with_cell}

-- the place at a turn of the innermost loop
abbrev pub track_place : Track → ℕ → ℕ
track_place t turn = if t.down then t.at - turn else t.at + turn

-- the place isn't below 0
abbrev pub IsOn : Track → ℕ → Type 0
IsOn t turn = t.down ≡ true → turn ≤ t.at

pub record IsTrackOf (spot : Spot) (depth : ℕ) (t : Track) : Type 0 where
  pub place : (loops : List ℕ) (turn : ℕ) → length loops ≡ depth → IsSpot spot (loops ++ turn ∷ [])
      → spot_place spot (loops ++ turn ∷ []) ≡ track_place t turn
  pub on : (loops : List ℕ) (turn : ℕ) → length loops ≡ depth → IsSpot spot (loops ++ turn ∷ [])
      → IsOn t turn

abbrev pub target_place : Target → ℕ → ℕ
target_place (target.Cell at) turn = at
target_place (target.Element track) turn = track_place track turn

abbrev pub IsOnTarget : Target → ℕ → Type 0
IsOnTarget (target.Cell at) turn = Unit {0}
IsOnTarget (target.Element track) turn = IsOn track turn

pub record IsTarget (spot : Spot) (depth : ℕ) (t : Target) : Type 0 where
  pub place : (loops : List ℕ) (turn : ℕ) → length loops ≡ depth → IsSpot spot (loops ++ turn ∷ [])
      → spot_place spot (loops ++ turn ∷ []) ≡ target_place t turn
  pub on : (loops : List ℕ) (turn : ℕ) → length loops ≡ depth → IsSpot spot (loops ++ turn ∷ [])
      → IsOnTarget t turn

-- the element is there
abbrev pub IsElement : Track → ℕ → List ℤ → Type 0
IsElement t turn cells = IsOn t turn × (track_place t turn < length cells)

abbrev pub terms_value : Terms → ℕ → List ℤ → ℤ
terms_value t turn cells = cell_at cells t.base *ℤ pos (2 ^ t.lift)
    +ℤ (cell_at cells (track_place t.first turn) *ℤ cell_at cells (track_place t.second turn))
    *ℤ pos (2 ^ t.rise)

abbrev pub plain_value : Plain → ℕ → List ℤ → ℤ
plain_value (plain.Element track) turn cells = cell_at cells (track_place track turn)
plain_value (plain.Sum terms) turn cells = terms_value terms turn cells

-- the product of two elements
abbrev pub elements_product : Track → Track → ℕ → List ℤ → ℤ
elements_product first second turn cells =
    cell_at cells (track_place first turn) *ℤ cell_at cells (track_place second turn)

abbrev pub IsShortProduct : Track → Track → ℕ → List ℤ → Type 0
IsShortProduct first second turn cells = FitsSigned w64 (cell_at cells (track_place first turn))
    × FitsSigned w64 (cell_at cells (track_place second turn))
    × FitsSigned w64 (elements_product first second turn cells)

-- and of a value that is read straight from the cells
abbrev pub TermsFit : Terms → ℕ → List ℤ → Type 0
TermsFit t turn cells = FitsSigned w64 (cell_at cells t.base)
    × IsShortRaised (cell_at cells t.base) t.lift × IsShortProduct t.first t.second turn cells
    × IsShortRaised (elements_product t.first t.second turn cells) t.rise
    × FitsSigned w64 (terms_value t turn cells)

abbrev pub PlainFits : Plain → ℕ → List ℤ → Type 0
PlainFits (plain.Element track) turn cells =
    FitsSigned w64 (plain_value (plain.Element track) turn cells)
PlainFits (plain.Sum terms) turn cells = TermsFit terms turn cells

abbrev pub AreTerms : Terms → ℕ → List ℤ → Type 0
AreTerms t turn cells =
    (t.base < length cells) × IsElement t.first turn cells × IsElement t.second turn cells

abbrev pub AreCells : Plain → ℕ → List ℤ → Type 0
AreCells (plain.Element track) turn cells = IsElement track turn cells
AreCells (plain.Sum terms) turn cells = AreTerms terms turn cells

-- the code of the product of two elements
pub record IsProduct (node : Node) (depth : ℕ) (first second : Track) : Type 0 where
  pub num : (loops : List ℕ) (turn : ℕ) (s : State) → length loops ≡ depth
      → IsSafe node s (loops ++ turn ∷ []) → node_value node s (loops ++ turn ∷ [])
      ≡ cell_at s.frame.cells (track_place first turn)
      *ℤ cell_at s.frame.cells (track_place second turn)
  pub safe : (loops : List ℕ) (turn : ℕ) (s : State) → length loops ≡ depth
      → IsSafe node s (loops ++ turn ∷ [])
      → IsElement first turn s.frame.cells × IsElement second turn s.frame.cells
  pub fits : (loops : List ℕ) (turn : ℕ) (s : State) → length loops ≡ depth
      → IsSafe node s (loops ++ turn ∷ []) → StepsFit node s (loops ++ turn ∷ [])
      → IsShortProduct first second turn s.frame.cells

-- the sum of a cell and a product
pub record IsSum (node : Node) (depth : ℕ) (t : Terms) : Type 0 where
  pub num : (loops : List ℕ) (turn : ℕ) (s : State) → length loops ≡ depth
      → IsSafe node s (loops ++ turn ∷ [])
      → node_value node s (loops ++ turn ∷ []) ≡ terms_value t turn s.frame.cells
  pub safe : (loops : List ℕ) (turn : ℕ) (s : State) → length loops ≡ depth
      → IsSafe node s (loops ++ turn ∷ []) → AreTerms t turn s.frame.cells
  pub fits : (loops : List ℕ) (turn : ℕ) (s : State) → length loops ≡ depth
      → IsSafe node s (loops ++ turn ∷ []) → StepsFit node s (loops ++ turn ∷ [])
      → TermsFit t turn s.frame.cells

pub record IsPlain (node : Node) (depth : ℕ) (value : Plain) : Type 0 where
  pub num : (loops : List ℕ) (turn : ℕ) (s : State) → length loops ≡ depth
      → IsSafe node s (loops ++ turn ∷ [])
      → node_value node s (loops ++ turn ∷ []) ≡ plain_value value turn s.frame.cells
  pub safe : (loops : List ℕ) (turn : ℕ) (s : State) → length loops ≡ depth
      → IsSafe node s (loops ++ turn ∷ []) → AreCells value turn s.frame.cells
  pub fits : (loops : List ℕ) (turn : ℕ) (s : State) → length loops ≡ depth
      → IsSafe node s (loops ++ turn ∷ []) → StepsFit node s (loops ++ turn ∷ [])
      → PlainFits value turn s.frame.cells

-- the statement gives an element the number of another
pub record IsRowCopy (act : Act) (depth : ℕ) (row : RowCopy) : Type 0 where
  pub same : (loops : List ℕ) (turn : ℕ) (s : State) → length loops ≡ depth
      → IsSafeAct act (loops ++ turn ∷ []) s
      → acted act (loops ++ turn ∷ []) s ≡ with_cell (track_place row.to turn)
      (cell_at s.frame.cells (track_place row.of turn)) s
  pub on : (loops : List ℕ) (turn : ℕ) (s : State) → length loops ≡ depth
      → IsSafeAct act (loops ++ turn ∷ []) s
      → IsElement row.to turn s.frame.cells × IsElement row.of turn s.frame.cells

-- the statement cuts such a value into a cell, where that lies in the range
pub record IsPlainSet (act : Act) (depth : ℕ) (set : PlainSet) : Type 0 where
  pub same : (loops : List ℕ) (turn : ℕ) (s : State) → length loops ≡ depth
      → IsSafeAct act (loops ++ turn ∷ []) s
      → IsOfWidth set.cut.signed set.cut.wl
      (below (plain_value set.value turn s.frame.cells) (2 ^ set.cut.shift))
      → acted act (loops ++ turn ∷ []) s ≡ with_cell (target_place set.target turn)
      (below (plain_value set.value turn s.frame.cells) (2 ^ set.cut.shift)) s
  pub on : (loops : List ℕ) (turn : ℕ) (s : State) → length loops ≡ depth
      → IsSafeAct act (loops ++ turn ∷ []) s → IsOnTarget set.target turn
      × (target_place set.target turn < length s.frame.cells)
      × AreCells set.value turn s.frame.cells
  pub fits : set.narrow ≡ true → (loops : List ℕ) (turn : ℕ) (s : State) → length loops ≡ depth
      → IsSafeAct act (loops ++ turn ∷ []) s → PlainFits set.value turn s.frame.cells
  pub few : set.cut.shift ≤ 62
  pub some : 1 ≤ set.cut.wl
  pub small : set.cut.wl ≤ 62

-- the sum of a cell and the product of the next elements of two rows, which is no more than cut
abbrev pub inner_terms : InnerProduct → Terms
inner_terms g = record {
  base = g.at;
  lift = g.lift;
  first = record { at = g.first; down = false };
  second = record { at = g.second; down = false };
  rise = 0;
}

abbrev pub inner_step : InnerProduct → (turn : ℕ) → (sum : ℤ) → List ℤ → ℤ
inner_step g turn sum cells = below (sum *ℤ pos (2 ^ g.lift)
    +ℤ cell_at cells (g.first + turn) *ℤ cell_at cells (g.second + turn)) (2 ^ g.cut.shift)

-- the elements at a turn and their product fit 64 bits, and the product with room for a sum
pub record IsRowsProduct (g : InnerProduct) (turn : ℕ) (cells : List ℤ) : Type 0 where
  pub first : FitsSigned w64 (cell_at cells (g.first + turn))
  pub second : FitsSigned w64 (cell_at cells (g.second + turn))
  pub small : unsigned_abs (cell_at cells (g.first + turn) *ℤ cell_at cells (g.second + turn))
      < 2 ^ 61

-- the assignment gives a cell that sum, whose rows don't reach the cell at the turns from the first
-- on and below the end
pub record IsInnerProduct (set : PlainSet) (from end : ℕ) (g : InnerProduct) : Type 0 where
  pub target : set.target ≡ target.Cell g.at
  pub value : set.value ≡ plain.Sum (inner_terms g)
  pub cut : set.cut ≡ g.cut
  pub narrow : set.narrow ≡ true
  pub signed : g.cut.signed ≡ true
  pub few : g.lift + g.cut.wl ≤ 62
  pub first : (turn : ℕ) → from ≤ turn → turn < end → g.first + turn ≢ g.at
  pub second : (turn : ℕ) → from ≤ turn → turn < end → g.second + turn ≢ g.at
