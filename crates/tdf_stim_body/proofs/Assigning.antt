-- The assignments of one run: each port gets the element of its array.
use Rattle.std.proofs.Common.{◌≡◌, ◌∙◌, ℕ, zero, suc, ◌+◌, ◌*◌, ◌<◌, ◌≤◌, true, false, List, [], ◌∷◌, map, length, Some, slice_get, slice_index_or, refl, sym, ap, subst, inl, inr, arith, ℤ, pos}
use Rattle.std.proofs.lemmas.Bool.{cases_eq}
use Rattle.std.proofs.lemmas.List.{get_or-set_other, get_or-set_same, length-set}
use Rattle.std.proofs.lemmas.Option.{same_Some}
use Rattle.std.specs.List.{range_with_len}
use Rattle.std.specs.Prelude.{codes}
use Rattle.tdf_expr_semantics.specs.Bodies.{after, after_all}
use Rattle.tdf_expr_semantics.specs.Places.{first_sample, port_number}
use Rattle.tdf_expr_semantics.specs.Value.{cast_number, of_shape, own_value}
use Rattle.tdf_expr_state.specs.State.{State, cell_at, with_sample}
use Rattle.tdf_expr_symbols.specs.Faults.{opened}
use Rattle.tdf_expr_symbols.specs.Scope.{OpenLoop, Scope}
use Rattle.tdf_fixed.specs.declared.raw.Raw.{Raw}
use Rattle.tdf_lang_tree.specs.Views.{sts}
use Rattle.tdf_lang_tree.specs.declared.stmt.Limit.TheVariants.{Int}
use Rattle.tdf_stim.specs.Driver.{array_name, assign, port_name}
use Rattle.tdf_stim.specs.Signals.{Column}
use Rattle.tdf_stim_body.proofs.Counting.{assigned_is, own_at}
use Rattle.tdf_stim_body.proofs.Numbers.{array_cell, has_item, port_mark, port_sample}
use Rattle.tdf_stim_body.specs.Names.{HasDriverNames, array_thing, port_thing}
use Rattle.tdf_stim_body.specs.Runs.{run_sample}

-- the loop over the rows
abbrev pub row_loop : ℕ → List OpenLoop
row_loop rows = opened (codes "i") 0 (Int rows) ∷ []

-- what the assignments from port a on leave
pub record Assigns (columns : List Column) (rows i a : ℕ) (s t : State) : Type 0 where
  pub frame : t.frame ≡ s.frame
  pub notified : t.ports.notified ≡ s.ports.notified
  pub samples_before : (j : ℕ) → j < a → cell_at t.ports.samples j ≡ cell_at s.ports.samples j
  pub marks_before : (j : ℕ) → j < a → slice_index_or t.ports.assigned j false ≡ slice_index_or s.ports.assigned j false
  pub samples : (j : ℕ) (c : Column) → a ≤ j → slice_get columns j ≡ Some c → cell_at t.ports.samples j ≡ run_sample s rows i j c
  pub marks : (j : ℕ) (c : Column) → a ≤ j → slice_get columns j ≡ Some c → slice_index_or t.ports.assigned j false ≡ true

module _ (scope : Scope) (columns : List Column) (rows : ℕ) (names : HasDriverNames scope.own columns rows) (i : ℕ) where
  abbrev does : ℕ → ℕ → State → State
  does a count s = after_all scope (row_loop rows) (i ∷ []) (sts (map assign (range_with_len a count))) s

  element_is : (j : ℕ) (c : Column) (s : State) → slice_get columns j ≡ Some c → own_value scope.own s (array_name j) (pos i) ≡ of_shape (Some c.shape) (cell_at s.frame.cells (rows * j + i))
  element_is j c s at =
      own_at scope.own s (array_name j) (2 * j + 1) i (array_thing c) (names.array j c at)
      ∙ ap (λ p. of_shape (Some c.shape) (cell_at s.frame.cells (p + i))) (array_cell scope.own columns rows names j c at)

  assign_is : (j : ℕ) (c : Column) (s : State) → slice_get columns j ≡ Some c → after scope (row_loop rows) (i ∷ []) (assign j) s ≡ with_sample j j (run_sample s rows i j c) s
  assign_is j c s at =
      let mark = port_mark scope.own columns rows names j c at in
      let sample = port_sample scope.own columns rows names j c at in
      let place : j + 0 ≡ j = omega arith in
      assigned_is scope.own s (port_name j) (2 * j) 0 (port_thing c) (own_value scope.own s (array_name j) (pos i)) (names.port j c at)
      ∙ ap (λ (v : Raw). with_sample (port_number scope.own (2 * j)) (first_sample scope.own (2 * j) + 0) (cast_number c.shape v) s) (element_is j c s at)
      ∙ ap (λ p. with_sample p (first_sample scope.own (2 * j) + 0) (run_sample s rows i j c) s) mark
      ∙ ap (λ p. with_sample j (p + 0) (run_sample s rows i j c) s) sample
      ∙ ap (λ p. with_sample j p (run_sample s rows i j c) s) place

  -- one assignment, and then the others
  assigns_more : (a : ℕ) (c : Column) (s t : State) → slice_get columns a ≡ Some c → a < length s.ports.samples → a < length s.ports.assigned
      → Assigns columns rows i (a + 1) (with_sample a a (run_sample s rows i a c) s) t → Assigns columns rows i a s t
  assigns_more a c s t at few_samples few_marks rest = record {
    frame = rest.frame;
    notified = rest.notified;
    samples_before = λ j less. rest.samples_before j (omega (arith, less)) ∙ get_or-set_other s.ports.samples a j (run_sample s rows i a c) (pos 0) (λ same. omega (arith, same, less));
    marks_before = λ j less. rest.marks_before j (omega (arith, less)) ∙ get_or-set_other s.ports.assigned a j true false (λ same. omega (arith, same, less));
    samples = λ j x up there. elim (cases_eq j a) [
      | inl same ↦ (let x_is : c ≡ x = same_Some c x (sym at ∙ ap (slice_get columns) (sym same) ∙ there) in
          ap (cell_at t.ports.samples) same ∙ rest.samples_before a (omega arith) ∙ get_or-set_same s.ports.samples a (run_sample s rows i a c) (pos 0) few_samples
          ∙ ap (run_sample s rows i a) x_is ∙ ap (λ k. run_sample s rows i k x) (sym same))
      | inr apart ↦ rest.samples j x (omega (arith, up, apart)) there
    ];
    marks = λ j x up there. elim (cases_eq j a) [
      | inl same ↦ ap (λ k. slice_index_or t.ports.assigned k false) same ∙ rest.marks_before a (omega arith) ∙ get_or-set_same s.ports.assigned a true false few_marks
      | inr apart ↦ rest.marks j x (omega (arith, up, apart)) there
    ];
  }

  pub assigns : (count a : ℕ) (s : State) → a + count ≡ length columns → length s.ports.samples ≡ length columns → length s.ports.assigned ≡ length columns → Assigns columns rows i a s (does a count s)
  assigns zero a s all samples marks = record {
    frame = refl;
    notified = refl;
    samples_before = λ j less. refl;
    marks_before = λ j less. refl;
    samples = λ j c up at. (let less = item_inside columns j c at in absurd (omega (arith, less, up, all)));
    marks = λ j c up at. (let less = item_inside columns j c at in absurd (omega (arith, less, up, all)));
  }
    where
      item_inside : (xs : List Column) (n : ℕ) (x : Column) → slice_get xs n ≡ Some x → n < length xs
      item_inside [] n x there = absurd (cc)
      item_inside (y ∷ ys) zero x there = omega arith
      item_inside (y ∷ ys) (suc n) x there = let more = item_inside ys n x there in omega (arith, more)
  assigns (suc count) a s all samples marks =
      let c = has_item columns a (omega (arith, all)) in
      let v : ℤ = run_sample s rows i a c.0 in
      let next : State = with_sample a a v s in
      let rest : Assigns columns rows i (a + 1) next (does (a + 1) count next) = assigns count (a + 1) next (omega (arith, all))
      (length-set s.ports.samples a v ∙ samples) (length-set s.ports.assigned a true ∙ marks) in
      subst (λ (x : State). Assigns columns rows i a s (does (a + 1) count x)) (sym (assign_is a c.0 s c.1))
      (assigns_more a c.0 s (does (a + 1) count next) c.1 (omega (arith, samples, all)) (omega (arith, marks, all)) rest)
