-- A cell that gathers the products of two rows, turn by turn.
use Rattle.std.proofs.Common.{◌≡◌, ◌∙◌, ℕ, ◌+◌, ◌^◌, ◌<◌, ◌≤◌, List, length, ℤ, pos, ◌+ℤ◌, ◌*ℤ◌, unsigned_abs, refl, sym, ap, subst, arith}
use Rattle.std.specs.Int.{w64}
use Rattle.std.specs.Prelude.{FitsSigned}
use Rattle.std.proofs.lemmas.Int.{ints}
use Rattle.std.proofs.lemmas.List.{get_or-set_same, get_or-set_other, set-set, set-get_or, length-set}
use Rattle.tdf_expr_machine.proofs.Runs.{turn_safe, turned_more, turned_none}
use Rattle.tdf_expr_machine.specs.Acts.{act_turn, IsTurnSafe}
use Rattle.tdf_expr_machine.specs.Turns.{AreTurnsSafe, turned}
use Rattle.tdf_expr_machine.specs.declared.acts.Act.{Act}
use Rattle.tdf_expr_machine.specs.declared.plain.InnerProduct.{InnerProduct}
use Rattle.tdf_expr_machine.specs.declared.plain.PlainSet.{PlainSet}
use Rattle.tdf_expr_machine.specs.machine.Plain.{AreCells, AreTerms, IsInnerProduct, IsOnTarget, IsPlainSet, IsRowsProduct, PlainFits, TermsFit, inner_step, inner_terms, plain_value, target_place}
use Rattle.tdf_expr_state.specs.State.{State, cell_at, with_cell}
use Rattle.tdf_fixed.specs.Overflow.{IsOfWidth}
use Rattle.tdf_fixed.specs.Quantise.{below}

-- a cell that is set to its own number, and one that is set again
pub cell_own : (s : State) (at : ℕ) → with_cell at (cell_at s.frame.cells at) s ≡ s
cell_own s at = ap (λ (cells : List ℤ). record { frame = record s.frame { cells = cells }; ports = s.ports }) (set-get_or s.frame.cells at (pos 0))

pub cell_again : (s : State) (at : ℕ) (m n : ℤ) → with_cell at n (with_cell at m s) ≡ with_cell at n s
cell_again s at m n = ap (λ (cells : List ℤ). record { frame = record s.frame { cells = cells }; ports = s.ports }) (set-set s.frame.cells at m n)

times_one : (z : ℤ) → z *ℤ pos (2 ^ 0) ≡ z
times_one z = omega (arith, ints)

module _ (act : Act) (set : PlainSet) (g : InnerProduct) (from end i : ℕ) (loops : List ℕ) (s : State) (sum : ℤ) (sets : IsPlainSet act (length loops) set) (inner : IsInnerProduct set from end g)
    (after : from ≤ i) (before : i < end) (safe : IsTurnSafe act loops i (with_cell g.at sum s)) where
  abbrev now : State
  now = with_cell g.at sum s

  long : length now.frame.cells ≡ length s.frame.cells
  long = length-set s.frame.cells g.at sum

  on : IsOnTarget set.target i × (target_place set.target i < length now.frame.cells) × AreCells set.value i now.frame.cells
  on = sets.on loops i now refl safe

  terms : AreTerms (inner_terms g) i now.frame.cells
  terms = subst (λ v. AreCells v i now.frame.cells) inner.value on.2

  -- the cell and the elements are there
  pub place_in : g.at < length s.frame.cells
  place_in = subst (λ n. g.at < n) long (subst (λ t. target_place t i < length now.frame.cells) inner.target on.1)

  pub first_in : g.first + i < length s.frame.cells
  first_in = subst (λ n. g.first + i < n) long (terms.1).1

  pub second_in : g.second + i < length s.frame.cells
  second_in = subst (λ n. g.second + i < n) long (terms.2).1

  abbrev whole : ℤ
  whole = sum *ℤ pos (2 ^ g.lift) +ℤ cell_at s.frame.cells (g.first + i) *ℤ cell_at s.frame.cells (g.second + i)

  value_is : plain_value set.value i now.frame.cells ≡ whole
  value_is =
      let own : cell_at now.frame.cells g.at ≡ sum = get_or-set_same s.frame.cells g.at sum (pos 0) place_in in
      let one : cell_at now.frame.cells (g.first + i) ≡ cell_at s.frame.cells (g.first + i) = get_or-set_other s.frame.cells g.at (g.first + i) sum (pos 0) (inner.first i after before) in
      let two : cell_at now.frame.cells (g.second + i) ≡ cell_at s.frame.cells (g.second + i) = get_or-set_other s.frame.cells g.at (g.second + i) sum (pos 0) (inner.second i after before) in
      ap (λ v. plain_value v i now.frame.cells) inner.value
      ∙ ap (λ z. cell_at now.frame.cells g.at *ℤ pos (2 ^ g.lift) +ℤ z) (times_one (cell_at now.frame.cells (g.first + i) *ℤ cell_at now.frame.cells (g.second + i)))
      ∙ ap (λ z. z *ℤ pos (2 ^ g.lift) +ℤ cell_at now.frame.cells (g.first + i) *ℤ cell_at now.frame.cells (g.second + i)) own
      ∙ ap (λ z. sum *ℤ pos (2 ^ g.lift) +ℤ z *ℤ cell_at now.frame.cells (g.second + i)) one
      ∙ ap (λ z. sum *ℤ pos (2 ^ g.lift) +ℤ cell_at s.frame.cells (g.first + i) *ℤ z) two

  -- the elements and their product are short
  pub short : IsRowsProduct g i s.frame.cells
  short =
      let one : cell_at now.frame.cells (g.first + i) ≡ cell_at s.frame.cells (g.first + i) = get_or-set_other s.frame.cells g.at (g.first + i) sum (pos 0) (inner.first i after before) in
      let two : cell_at now.frame.cells (g.second + i) ≡ cell_at s.frame.cells (g.second + i) = get_or-set_other s.frame.cells g.at (g.second + i) sum (pos 0) (inner.second i after before) in
      let fit : TermsFit (inner_terms g) i now.frame.cells = subst (λ v. PlainFits v i now.frame.cells) inner.value (sets.fits inner.narrow loops i now refl safe) in
      let small : unsigned_abs (cell_at now.frame.cells (g.first + i) *ℤ cell_at now.frame.cells (g.second + i)) < 2 ^ 61 = fit.3.1 in
      record {
        first = subst (λ z. FitsSigned w64 z) one fit.2.0;
        second = subst (λ z. FitsSigned w64 z) two fit.2.1;
        small = subst (λ z. unsigned_abs (cell_at s.frame.cells (g.first + i) *ℤ z) < 2 ^ 61) two (subst (λ z. unsigned_abs (z *ℤ cell_at now.frame.cells (g.second + i)) < 2 ^ 61) one small);
      }

  -- the turn leaves the next sum in the cell
  pub next_sum : (next : ℤ) → next ≡ inner_step g i sum s.frame.cells → IsOfWidth g.cut.signed g.cut.wl next → act_turn act loops i (with_cell g.at sum s) ≡ with_cell g.at next s
  next_sum next is range =
      let same : below (plain_value set.value i now.frame.cells) (2 ^ set.cut.shift) ≡ next =
      ap (λ v. below v (2 ^ set.cut.shift)) value_is ∙ ap (λ c. below whole (2 ^ c.shift)) inner.cut ∙ sym is in
      let within = subst (λ z. IsOfWidth set.cut.signed set.cut.wl z) (sym same) (subst (λ c. IsOfWidth c.signed c.wl next) (sym inner.cut) range) in
      sets.same loops i now refl safe within ∙ ap (λ z. with_cell (target_place set.target i) z now) same
      ∙ ap (λ t. with_cell (target_place t i) next now) inner.target ∙ cell_again s g.at sum next

module _ (act : Act) (set : PlainSet) (g : InnerProduct) (from end : ℕ) (loops : List ℕ) (s : State) (sets : IsPlainSet act (length loops) set) (inner : IsInnerProduct set from end g)
    (safe : AreTurnsSafe (act_turn act loops) (IsTurnSafe act loops) from end s) where
  -- the cell is there, and holds the sum of no turns
  pub begins : with_cell g.at (cell_at s.frame.cells g.at) s ≡ turned (act_turn act loops) from from s
  begins = cell_own s g.at ∙ sym (turned_none (act_turn act loops) from from s (omega arith))

  -- a turn at a sum that the turns before it left
  module _ (i : ℕ) (sum : ℤ) (after : from ≤ i) (before : i < end) (is : with_cell g.at sum s ≡ turned (act_turn act loops) from i s) where
    here : IsTurnSafe act loops i (with_cell g.at sum s)
    here = subst (λ t. IsTurnSafe act loops i t) (sym is) (turn_safe (act_turn act loops) (IsTurnSafe act loops) from end i s safe after before)

    pub holds_place : g.at < length s.frame.cells
    holds_place = place_in act set g from end i loops s sum sets inner after before here

    pub reads_first : g.first + i < length s.frame.cells
    reads_first = first_in act set g from end i loops s sum sets inner after before here

    pub reads_second : g.second + i < length s.frame.cells
    reads_second = second_in act set g from end i loops s sum sets inner after before here

    pub reads_short : IsRowsProduct g i s.frame.cells
    reads_short = short act set g from end i loops s sum sets inner after before here

    pub goes_on : (next : ℤ) → next ≡ inner_step g i sum s.frame.cells → IsOfWidth g.cut.signed g.cut.wl next → with_cell g.at next s ≡ turned (act_turn act loops) from (i + 1) s
    goes_on next step range =
        sym (next_sum act set g from end i loops s sum sets inner after before here next step range) ∙ ap (act_turn act loops i) is
        ∙ sym (turned_more (act_turn act loops) from i s after)

  pub begin_in : from < end → g.at < length s.frame.cells
  begin_in some = let first : from ≤ from = omega arith in holds_place from (cell_at s.frame.cells g.at) first some begins
