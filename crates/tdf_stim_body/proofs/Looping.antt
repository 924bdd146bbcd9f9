-- The loop over the rows: only the turn that has the number of the run does something.
use Rattle.std.proofs.Common.{◌≡◌, ◌≢◌, ◌∙◌, ℕ, zero, suc, ◌+◌, ◌-◌, ◌<◌, ◌≤◌, Bool, nat_eq, if◌then◌else◌, List, [], ◌∷◌, map, length, refl, sym, ap, subst, inl, inr, arith, pos}
use Rattle.std.proofs.lemmas.Bool.Decides.{eqb_tells}
use Rattle.std.specs.List.{range_with_len}
use Rattle.std.specs.Prelude.{codes}
use Rattle.tdf_expr_semantics.specs.Bodies.{after, after_all, repeated}
use Rattle.tdf_expr_semantics.specs.Value.{combined, holds, value, whole_number}
use Rattle.tdf_expr_state.specs.State.{FrameState, State, cell_at}
use Rattle.tdf_expr_symbols.specs.Scope.{Scope}
use Rattle.tdf_fixed.specs.declared.raw.Raw.{Raw}
use Rattle.tdf_lang_tree.specs.Pure.{Done, EName, More}
use Rattle.tdf_lang_tree.specs.Views.{sts}
use Rattle.tdf_lang_tree.specs.declared.expr.Op.TheVariants as op
use Rattle.tdf_stim.specs.Driver.{assign, each_run, is_count, one_run}
use Rattle.tdf_stim.specs.Signals.{Column}
use Rattle.tdf_stim_body.proofs.Assigning.{Assigns, assigns, row_loop}
use Rattle.tdf_stim_body.proofs.Counting.{count_is, same_count}
use Rattle.tdf_stim_body.specs.Names.{HasDriverNames}
use Rattle.tdf_stim_body.specs.Runs.{count_cell}

module _ (scope : Scope) (columns : List Column) (rows : ℕ) (names : HasDriverNames scope.own columns rows) (m : ℕ) where
  abbrev turn : ℕ → State → State
  turn i s = after_all scope (row_loop rows) (i ∷ []) (More (one_run (length columns)) Done) s

  abbrev does_assign : ℕ → State → State
  does_assign i s = after_all scope (row_loop rows) (i ∷ []) (sts (map assign (range_with_len 0 (length columns)))) s

  abbrev IsCount : State → Type 0
  IsCount s = cell_at s.frame.cells (count_cell columns rows) ≡ pos m

  test_is : (i : ℕ) (s : State) → IsCount s → holds (value scope (row_loop rows) (i ∷ []) s (is_count (EName (codes "i")))) ≡ nat_eq m i
  test_is i s counts = ap (λ (v : Raw). holds (combined op.Eq v (whole_number (pos i)))) (count_is scope.own columns rows m s names counts) ∙ same_count m i

  other_turn : (i : ℕ) (s : State) → IsCount s → m ≢ i → turn i s ≡ s
  other_turn i s counts apart = elim (eqb_tells m i) [
    | inl y ↦ absurd (apart y.1)
    | inr n ↦ ap (λ (b : Bool). if b then does_assign i s else s) (test_is i s counts ∙ n.0)
  ]

  own_turn : (s : State) → IsCount s → turn m s ≡ does_assign m s
  own_turn s counts = elim (eqb_tells m m) [
    | inl y ↦ ap (λ (b : Bool). if b then does_assign m s else s) (test_is m s counts ∙ y.0)
    | inr n ↦ absurd (n.1 refl)
  ]

  before_it : (s : State) → IsCount s → (n : ℕ) → n ≤ m → repeated turn 0 n s ≡ s
  before_it s counts zero low = refl
  before_it s counts (suc n) low =
      let f : 0 + n ≡ n = omega arith in
      ap (turn (0 + n)) (before_it s counts n (omega (arith, low))) ∙ ap (λ k. turn k s) f ∙ other_turn n s counts (λ same. omega (arith, same, low))

  module _ (s : State) (counts : IsCount s) (samples : length s.ports.samples ≡ length columns) (marks : length s.ports.assigned ≡ length columns) where
    done_is : Assigns columns rows m 0 s (does_assign m s)
    done_is = assigns scope columns rows names m (length columns) 0 s (omega arith) samples marks

    still_counts : IsCount (does_assign m s)
    still_counts = ap (λ (f : FrameState). cell_at f.cells (count_cell columns rows)) done_is.frame ∙ counts

    after_it : (k : ℕ) → repeated turn 0 (suc (k + m)) s ≡ does_assign m s
    after_it zero =
        let f : 0 + m ≡ m = omega arith in
        ap (λ n. repeated turn 0 (suc n) s) f ∙ ap (turn (0 + m)) (before_it s counts m (omega arith)) ∙ ap (λ n. turn n s) f ∙ own_turn s counts
    after_it (suc k) =
        let f : suc k + m ≡ suc (k + m) = omega arith in
        ap (λ n. repeated turn 0 (suc n) s) f ∙ ap (turn (0 + suc (k + m))) (after_it k)
        ∙ other_turn (0 + suc (k + m)) (does_assign m s) still_counts (λ same. omega (arith, same))

    -- the whole loop
    pub loops : m < rows → Assigns columns rows m 0 s (after scope [] [] (each_run rows (length columns)) s)
    loops less =
        let e : rows - 0 ≡ suc (rows - 1 - m + m) = omega (arith, less) in
        let all : repeated turn 0 (rows - 0) s ≡ does_assign m s = ap (λ n. repeated turn 0 n s) e ∙ after_it (rows - 1 - m) in
        subst (λ (x : State). Assigns columns rows m 0 s x) (sym all) done_is
