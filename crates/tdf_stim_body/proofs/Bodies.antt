-- One run of a driver's body.
use Rattle.std.proofs.Common.{◌≡◌, ◌∙◌, ℕ, zero, suc, ◌+◌, ◌*◌, ◌<◌, ◌≤◌, Bool, true, false, nat_eq, if◌then◌else◌, List, [], ◌∷◌, length, Option, Some, slice_get, slice_index, slice_set, refl, sym, ap, subst, inl, inr, arith, ℤ, pos}
use Rattle.std.proofs.lemmas.Bool.Decides.{eqb_tells}
use Rattle.std.specs.Prelude.{codes, drop}
use Rattle.tdf_expr_semantics.specs.Bodies.{after, after_all, after_body}
use Rattle.tdf_expr_semantics.specs.Value.{cast_number, combined, holds, of_shape, own_value, value, whole_number}
use Rattle.tdf_expr_state.specs.State.{FrameState, State, cell_at, least_time, standing, with_cell}
use Rattle.tdf_expr_symbols.specs.Scope.{Scope}
use Rattle.tdf_fixed.specs.declared.raw.Raw.{Raw}
use Rattle.tdf_lang_tree.specs.Pure.{ENumber}
use Rattle.tdf_lang_tree.specs.Views.{sts}
use Rattle.tdf_lang_tree.specs.declared.expr.Op.TheVariants as op
use Rattle.tdf_stim.specs.Driver.{count_up, driver_body, each_run, first_run, is_count, notify_lines}
use Rattle.tdf_stim.specs.Signals.{Column, count_shape}
use Rattle.tdf_stim_body.proofs.Assigning.{Assigns}
use Rattle.tdf_stim_body.proofs.Counting.{assigned_is, count_is, next_count, one_is, same_count, zero_is}
use Rattle.tdf_stim_body.proofs.Looping.{loops}
use Rattle.tdf_stim_body.proofs.Noticing.{Notifies, notifies_all}
use Rattle.tdf_stim_body.proofs.Numbers.{count_first}
use Rattle.tdf_stim_body.specs.Laws.{BodyDrives}
use Rattle.tdf_stim_body.specs.Names.{HasDriverNames, count_thing}
use Rattle.tdf_stim_body.specs.Runs.{FewRows, HasCounted, RanOnce, count_cell}

-- what the first statement leaves: in the first run each event is notified
record Begins (times : List ℕ) (m : ℕ) (s t : State) : Type 0 where
  frame : t.frame ≡ s.frame
  samples : t.ports.samples ≡ s.ports.samples
  assigned : t.ports.assigned ≡ s.ports.assigned
  first : m ≡ 0 → (i : ℕ) → i + 1 < length times → standing (slice_get t.ports.notified i) ≡ Some (least_time (standing (slice_get s.ports.notified i)) (slice_index times (i + 1)))
  later : 0 < m → t.ports.notified ≡ s.ports.notified

module _ (scope : Scope) (columns : List Column) (times : List ℕ) (names : HasDriverNames scope.own columns (length times)) (m : ℕ) (less : m < length times) where
  abbrev rows : ℕ
  rows = length times

  test_is : (s : State) → cell_at s.frame.cells (count_cell columns rows) ≡ pos m → holds (value scope [] [] s (is_count (ENumber (codes "0")))) ≡ nat_eq m 0
  test_is s counts =
      ap (λ (v : Raw). holds (combined op.Eq v (value scope [] [] s (ENumber (codes "0"))))) (count_is scope.own columns rows m s names counts)
      ∙ ap (λ (v : Raw). holds (combined op.Eq (whole_number (pos m)) v)) zero_is ∙ same_count m 0

  abbrev notified : State → State
  notified s = after_all scope [] [] (sts (notify_lines 1 (drop 1 times))) s

  first_is : (s : State) (b : Bool) → nat_eq m 0 ≡ b → cell_at s.frame.cells (count_cell columns rows) ≡ pos m → after scope [] [] (first_run times) s ≡ (if b then notified s else s)
  first_is s b is counts = ap (λ (x : Bool). if x then notified s else s) (test_is s counts ∙ is)

  notified_begins : (ts : List ℕ) (s t : State) → m ≡ 0 → Notifies 0 (drop 1 ts) s t → Begins ts m s t
  notified_begins [] s t at_first all = record {
    frame = all.frame;
    samples = all.samples;
    assigned = all.assigned;
    first = λ is i within. absurd (omega (arith, within));
    later = λ some. absurd (omega (arith, some, at_first));
  }
  notified_begins (time ∷ ts) s t at_first all = record {
    frame = all.frame;
    samples = all.samples;
    assigned = all.assigned;
    first = λ is i within. (
        let f : 0 + i ≡ i = omega arith in
        let g : i + 1 ≡ suc i = omega arith in
        ap (λ n. standing (slice_get t.ports.notified n)) (sym f) ∙ all.each i (omega (arith, within))
        ∙ ap (λ n. Some (least_time (standing (slice_get s.ports.notified n)) (slice_index ts i))) f
        ∙ ap (λ n. Some (least_time (standing (slice_get s.ports.notified i)) (slice_index (time ∷ ts) n))) (sym g));
    later = λ some. absurd (omega (arith, some, at_first));
  }

  drop_long : (ts : List ℕ) → 0 < length ts → 0 + 1 + length (drop 1 ts) ≡ length ts
  drop_long [] some = absurd (omega (arith, some))
  drop_long (t ∷ ts) some = omega arith

  begins : (s : State) → HasCounted columns rows m s → Begins times m s (after scope [] [] (first_run times) s)
  begins s has = elim (eqb_tells m 0) [
    | inl y ↦ subst (λ (x : State). Begins times m s x) (sym (first_is s true y.0 has.count))
        (notified_begins times s (notified s) y.1 (notifies_all scope columns rows names 0 (drop 1 times) s (drop_long times (omega (arith, less))) has.notified))
    | inr n ↦ subst (λ (x : State). Begins times m s x) (sym (first_is s false n.0 has.count)) (record {
      frame = refl;
      samples = refl;
      assigned = refl;
      first = λ zero i within. absurd (n.1 zero);
      later = λ some. refl;
    })
  ]

  -- the count goes up
  counts_on : (s : State) → rows ≤ 4096 → cell_at s.frame.cells (count_cell columns rows) ≡ pos m → after scope [] [] count_up s ≡ with_cell (count_cell columns rows) (pos (m + 1)) s
  counts_on s few counts =
      let first = count_first scope.own columns rows names in
      let place : count_cell columns rows + 0 ≡ count_cell columns rows = omega arith in
      let sum : cast_number count_shape (combined op.Add (own_value scope.own s (codes "k") (pos 0)) (value scope [] [] s (ENumber (codes "1")))) ≡ pos (m + 1) =
      ap (λ (v : Raw). cast_number count_shape (combined op.Add v (value scope [] [] s (ENumber (codes "1"))))) (count_is scope.own columns rows m s names counts)
      ∙ ap (λ (v : Raw). cast_number count_shape (combined op.Add (whole_number (pos m)) v)) one_is ∙ next_count m (omega (arith, less, few)) in
      assigned_is scope.own s (codes "k") (2 * length columns) 0 count_thing
      (combined op.Add (own_value scope.own s (codes "k") (pos 0)) (value scope [] [] s (ENumber (codes "1")))) names.count
      ∙ ap (λ p. with_cell (p + 0) (cast_number count_shape (combined op.Add (own_value scope.own s (codes "k") (pos 0)) (value scope [] [] s (ENumber (codes "1"))))) s) first
      ∙ ap (λ p. with_cell p (cast_number count_shape (combined op.Add (own_value scope.own s (codes "k") (pos 0)) (value scope [] [] s (ENumber (codes "1"))))) s) place
      ∙ ap (λ (z : ℤ). with_cell (count_cell columns rows) z s) sum

  -- from the parts to the whole
  abbrev sample_in : FrameState → ℕ → Column → ℤ
  sample_in f j c = cast_number c.shape (of_shape (Some c.shape) (cell_at f.cells (rows * j + m)))

  ran : (s one two : State) → Begins times m s one → Assigns columns rows m 0 one two → RanOnce columns times m s (with_cell (count_cell columns rows) (pos (m + 1)) two)
  ran s one two begin all = record {
    cells = ap (λ (f : FrameState). slice_set f.cells (count_cell columns rows) (pos (m + 1))) (all.frame ∙ begin.frame);
    rates = ap (λ (f : FrameState). f.rates) (all.frame ∙ begin.frame);
    samples = λ j c at. all.samples j c (omega arith) at ∙ ap (λ (f : FrameState). sample_in f j c) begin.frame;
    assigned = λ j c at. all.marks j c (omega arith) at;
    first = λ zero i within. ap (λ (ns : List (Option ℕ)). standing (slice_get ns i)) all.notified ∙ begin.first zero i within;
    later = λ some. all.notified ∙ begin.later some;
  }

  whole : (s : State) → FewRows rows → HasCounted columns rows m s → RanOnce columns times m s (after_body scope (driver_body (length columns) times) s)
  whole s few has =
      let one : State = after scope [] [] (first_run times) s in
      let begin : Begins times m s one = begins s has in
      let counts : cell_at one.frame.cells (count_cell columns rows) ≡ pos m = ap (λ (f : FrameState). cell_at f.cells (count_cell columns rows)) begin.frame ∙ has.count in
      let two : State = after scope [] [] (each_run rows (length columns)) one in
      let all : Assigns columns rows m 0 one two = loops scope columns rows names m one counts (ap length begin.samples ∙ has.samples) (ap length begin.assigned ∙ has.assigned) less in
      let later : cell_at two.frame.cells (count_cell columns rows) ≡ pos m = ap (λ (f : FrameState). cell_at f.cells (count_cell columns rows)) all.frame ∙ counts in
      subst (λ (x : State). RanOnce columns times m s x) (sym (counts_on two few later)) (ran s one two begin all)

pub body_drives : BodyDrives
body_drives scope columns times m s names few less has = whole scope columns times names m less s few has
