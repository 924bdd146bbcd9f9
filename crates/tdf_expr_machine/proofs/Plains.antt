-- Places that go with the innermost loop variable, and copies between them.
use Rattle.std.proofs.Common.{◌≡◌, ◌∙◌, ℕ, ◌+◌, ◌-◌, ◌<◌, ◌≤◌, List, [], ◌∷◌, ◌++◌, length, true, false, ℤ, refl, ap, subst, arith, rules}
use Rattle.std.specs.Prelude.{slice_index}
use Rattle.tdf_expr_machine.proofs.Runs.{turn_safe}
use Rattle.tdf_expr_machine.specs.Acts.{IsTurnSafe, act_turn}
use Rattle.tdf_expr_machine.specs.Nodes.{IsSafe, node_value, spot_place}
use Rattle.tdf_expr_machine.specs.Turns.{AreTurnsSafe, turned}
use Rattle.tdf_expr_machine.specs.declared.acts.Act.{Act}
use Rattle.tdf_expr_machine.specs.declared.acts.Act.TheVariants as variant
use Rattle.tdf_expr_machine.specs.declared.acts.CastNode.{CastNode}
use Rattle.tdf_expr_machine.specs.declared.nodes.Node.TheVariants as code
use Rattle.tdf_expr_machine.specs.declared.plain.RowCopy.{RowCopy}
use Rattle.tdf_expr_machine.specs.declared.plain.Track.{Track}
use Rattle.tdf_expr_machine.specs.declared.spots.Spot.{Spot}
use Rattle.tdf_expr_machine.specs.declared.spots.Spot.TheVariants as spot
use Rattle.tdf_expr_machine.specs.machine.Plain.{IsElement, IsRowCopy, IsTrackOf, track_place}
use Rattle.tdf_expr_state.specs.State.{State, cell_at, with_cell}
use Rattle.tdf_fixed.specs.Cast.{cast_of}
use Rattle.tdf_fixed.specs.Overflow.{IsOfWidth}

innermost : (loops : List ℕ) (turn : ℕ) → slice_index (loops ++ turn ∷ []) (length loops) ≡ turn
innermost [] turn = refl
innermost (x ∷ loops) turn = innermost loops turn

innermost_at : (loops : List ℕ) (depth turn : ℕ) → length loops ≡ depth → slice_index (loops ++ turn ∷ []) depth ≡ turn
innermost_at loops depth turn same = subst (λ d. slice_index (loops ++ turn ∷ []) d ≡ turn) same (innermost loops turn)

pub track_up : (at depth less : ℕ) → less ≤ at → IsTrackOf (spot.Rise at 1 depth less) depth (record { at = at - less; down = false })
track_up at depth less low = record {
  place = λ loops turn same safe. let is = innermost_at loops depth turn same in rw is (omega (arith, low));
  on = λ loops turn same safe down. absurd (search rules);
}

pub track_down : (at depth : ℕ) → IsTrackOf (spot.Fall at depth) depth (record { at = at; down = true })
track_down at depth = record {
  place = λ loops turn same safe. let is = innermost_at loops depth turn same in rw is refl;
  on = λ loops turn same safe down. let is = innermost_at loops depth turn same in subst (λ t. t ≤ at) is safe.1;
}

pub ruleset track_laws = (track_up, track_down)

-- an assignment of one element to another, by a cast that keeps it
pub row_is : (act : Act) (spot at : Spot) (bits depth : ℕ) (c : CastNode) (to of : Track) → act ≡ variant.SetCell spot c → c.value ≡ code.CellAt at bits
    → ((num : ℤ) → IsOfWidth true (bits + 1) num → cast_of c.format num c.frac ≡ num) → IsTrackOf spot depth to → IsTrackOf at depth of → IsRowCopy act depth (record { to = to; of = of })
row_is act spot at bits depth c to of is value keeps goes comes = rw is (record {
  same = λ loops turn s long safe.
      let all : List ℕ = loops ++ turn ∷ [] in
      let here : IsSafe (code.CellAt at bits) s all = subst (λ n. IsSafe n s all) value safe.0 in
      let num : node_value c.value s all ≡ cell_at s.frame.cells (spot_place at all) = ap (λ n. node_value n s all) value in
      ap (λ z. with_cell (spot_place spot all) (cast_of c.format z c.frac) s) num
      ∙ ap (λ z. with_cell (spot_place spot all) z s) (keeps (cell_at s.frame.cells (spot_place at all)) here.1.1)
      ∙ ap (λ p. with_cell p (cell_at s.frame.cells (spot_place at all)) s) (goes.place loops turn long safe.2)
      ∙ ap (λ p. with_cell (track_place to turn) (cell_at s.frame.cells p) s) (comes.place loops turn long here.0);
  on = λ loops turn s long safe.
      let all : List ℕ = loops ++ turn ∷ [] in
      let here : IsSafe (code.CellAt at bits) s all = subst (λ n. IsSafe n s all) value safe.0 in (
        (goes.on loops turn long safe.2, subst (λ p. p < length s.frame.cells) (goes.place loops turn long safe.2) safe.3),
        (comes.on loops turn long here.0, subst (λ p. p < length s.frame.cells) (comes.place loops turn long here.0) here.1.0),
      );
})

pub ruleset copy_laws = (row_is)

-- a turn of a loop that copies a row: both elements are there, and one gets the number of the other
pub record IsCopyTurn (act : Act) (loops : List ℕ) (row : RowCopy) (i : ℕ) (s : State) : Type 0 where
  pub on : IsElement row.to i s.frame.cells × IsElement row.of i s.frame.cells
  pub same : act_turn act loops i s ≡ with_cell (track_place row.to i) (cell_at s.frame.cells (track_place row.of i)) s

-- it is one at what the turns before it leave
pub copy_turn : (act : Act) (loops : List ℕ) (row : RowCopy) (from end i : ℕ) (start s : State) → IsRowCopy act (length loops) row → AreTurnsSafe (act_turn act loops) (IsTurnSafe act loops) from end start
    → from ≤ i → i < end → s ≡ turned (act_turn act loops) from i start → IsCopyTurn act loops row i s
copy_turn act loops row from end i start s is safe after before state =
    let fine : IsTurnSafe act loops i s = rw state (turn_safe (act_turn act loops) (IsTurnSafe act loops) from end i start safe after before) in
    record { on = is.on loops i s refl fine; same = is.same loops i s refl fine }
