-- The notifications of the first run.
use Rattle.std.proofs.Common.{◌≡◌, ◌≢◌, ◌∙◌, ℕ, zero, suc, ◌+◌, ◌-◌, ◌<◌, List, [], ◌∷◌, length, Option, Some, slice_get, slice_index, slice_set, refl, sym, ap, subst, arith}
use Rattle.std.proofs.lemmas.List.{length-set}
use Rattle.tdf_expr_semantics.specs.Bodies.{after, after_all, noticed_at}
use Rattle.tdf_expr_state.specs.State.{State, least_time, standing, with_notice}
use Rattle.tdf_expr_symbols.specs.Scope.{Scope}
use Rattle.tdf_lang_tree.specs.Views.{sts}
use Rattle.tdf_stim.specs.Driver.{notify_lines, notify}
use Rattle.tdf_stim.specs.Signals.{Column}
use Rattle.tdf_stim_body.proofs.Numbers.{event_notice}
use Rattle.tdf_stim_body.specs.Names.{HasDriverNames}

set_same : {A : Type 0} (xs : List A) (i : ℕ) (x : A) → i < length xs → slice_get (slice_set xs i x) i ≡ Some x
set_same [] i x less = absurd (omega (arith, less))
set_same (y ∷ ys) zero x less = refl
set_same (y ∷ ys) (suc i) x less = set_same ys i x (omega (arith, less))

set_other : {A : Type 0} (xs : List A) (i k : ℕ) (x : A) → i ≢ k → slice_get (slice_set xs i x) k ≡ slice_get xs k
set_other [] i k x apart = refl
set_other (y ∷ ys) zero zero x apart = absurd (apart refl)
set_other (y ∷ ys) zero (suc k) x apart = refl
set_other (y ∷ ys) (suc i) zero x apart = refl
set_other (y ∷ ys) (suc i) (suc k) x apart = set_other ys i k x (λ e. apart (ap suc e))

-- the notice that event i has after it is notified
abbrev noticed_time : State → (i time : ℕ) → ℕ
noticed_time s i time = least_time (standing (slice_get s.ports.notified i)) time

-- what the notifications of events from i + 1 on leave
pub record Notifies (i : ℕ) (times : List ℕ) (s t : State) : Type 0 where
  pub frame : t.frame ≡ s.frame
  pub samples : t.ports.samples ≡ s.ports.samples
  pub assigned : t.ports.assigned ≡ s.ports.assigned
  pub before : (k : ℕ) → k < i → slice_get t.ports.notified k ≡ slice_get s.ports.notified k
  pub each : (k : ℕ) → k < length times → standing (slice_get t.ports.notified (i + k)) ≡ Some (noticed_time s (i + k) (slice_index times k))

module _ (scope : Scope) (columns : List Column) (rows : ℕ) (names : HasDriverNames scope.own columns rows) where
  notify_is : (i time : ℕ) (s : State) → i + 1 < rows → after scope [] [] (notify (i + 1) time) s ≡ with_notice i time s
  notify_is i time s less =
      ap (λ (o : Option ℕ). noticed_at scope.own o time s) (names.event i less).place
      ∙ ap (λ n. with_notice n time s) (event_notice scope.own columns rows names i less)

  notifies_more : (i time : ℕ) (times : List ℕ) (s t : State) → i < length s.ports.notified → Notifies (i + 1) times (with_notice i time s) t → Notifies i (time ∷ times) s t
  notifies_more i time times s t inside rest = record {
    frame = rest.frame;
    samples = rest.samples;
    assigned = rest.assigned;
    before = λ k less. rest.before k (omega (arith, less)) ∙ set_other s.ports.notified i k (Some (noticed_time s i time)) (λ same. omega (arith, same, less));
    each = each;
  }
    where
      each : (k : ℕ) → k < length (time ∷ times) → standing (slice_get t.ports.notified (i + k)) ≡ Some (noticed_time s (i + k) (slice_index (time ∷ times) k))
      each zero less =
          let f : i + 0 ≡ i = omega arith in
          ap (λ n. standing (slice_get t.ports.notified n)) f
          ∙ ap (λ (o : Option (Option ℕ)). standing o) (rest.before i (omega arith) ∙ set_same s.ports.notified i (Some (noticed_time s i time)) inside)
          ∙ ap (λ n. Some (noticed_time s n time)) (sym f)
      each (suc k) less =
          let f : i + suc k ≡ i + 1 + k = omega arith in
          ap (λ n. standing (slice_get t.ports.notified n)) f ∙ rest.each k (omega (arith, less))
          ∙ ap (λ (o : Option (Option ℕ)). Some (least_time (standing o) (slice_index times k))) (set_other s.ports.notified i (i + 1 + k) (Some (noticed_time s i time)) (λ same. omega (arith, same)))
          ∙ ap (λ n. Some (noticed_time s n (slice_index times k))) (sym f)

  pub notifies_all : (i : ℕ) (times : List ℕ) (s : State) → i + 1 + length times ≡ rows → length s.ports.notified ≡ rows - 1 → Notifies i times s (after_all scope [] [] (sts (notify_lines (i + 1) times)) s)
  unfolding notify_lines
  notifies_all i [] s all long = record {
    frame = refl;
    samples = refl;
    assigned = refl;
    before = λ k less. refl;
    each = λ k less. absurd (omega (arith, less));
  }
  notifies_all i (time ∷ times) s all long =
      let less : i + 1 < rows = omega (arith, all) in
      let inside : i < length s.ports.notified = omega (arith, all, long) in
      let rest : Notifies (i + 1) times (with_notice i time s) (after_all scope [] [] (sts (notify_lines (i + 1 + 1) times)) (with_notice i time s)) =
      notifies_all (i + 1) times (with_notice i time s) (omega (arith, all)) (length-set s.ports.notified i (Some (noticed_time s i time)) ∙ long) in
      subst (λ (x : State). Notifies i (time ∷ times) s (after_all scope [] [] (sts (notify_lines (i + 1 + 1) times)) x)) (sym (notify_is i time s less))
      (notifies_more i time times s (after_all scope [] [] (sts (notify_lines (i + 1 + 1) times)) (with_notice i time s)) inside rest)
