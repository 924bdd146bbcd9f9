-- Numbers that are each of their format.
use Rattle.std.proofs.Common.{◌≡◌, ◌∙◌, ◌<◌, ◌+◌, ℕ, List, Option, Some, None, ℤ, IfSome, length, map, refl, sym, ap, subst, inl, inr, arith}
use Rattle.std.proofs.lemmas.Bool.{cases_lt}
use Rattle.std.proofs.lemmas.List.{length-map}
use Rattle.std.proofs.lemmas.Option.{slice_get_within, slice_get-map}
use Rattle.std.specs.Option.{option_map}
use Rattle.std.specs.Prelude.{slice_get}
use Rattle.tdf_expr.specs.Plans.{shape_written}
use Rattle.tdf_expr_semantics.specs.Fits.{NumbersFit}
use Rattle.tdf_expr_state.specs.State.{cell_at}
use Rattle.tdf_fixed.specs.Overflow.{IsOfWidth}
use Rattle.tdf_fixed.specs.declared.format.Format.{Format}
use Rattle.tdf_lang_tree.specs.declared.shapes.Shape.{Shape}

-- each of the first n is of its format
abbrev pub AreHeld : List Format → List ℤ → ℕ → Type 0
AreHeld formats nums n = (j : ℕ) (f : Format) → j < n → slice_get formats j ≡ Some f → IsOfWidth f.signed f.wl (cell_at nums j)

-- and one more
pub held_more : (formats : List Format) (nums : List ℤ) (n : ℕ) (f : Format) → slice_get formats n ≡ Some f → AreHeld formats nums n
    → IsOfWidth f.signed f.wl (cell_at nums n) → AreHeld formats nums (n + 1)
held_more formats nums n f at before one j g less here = elim (cases_lt j n) [
  | inl below ↦ before j g below here
  | inr past ↦ (let same : n ≡ j = omega (arith, less, past) in
      subst (λ (o : Option Format). IfSome o (λ h. IsOfWidth h.signed h.wl (cell_at nums j))) (sym (subst (λ k. slice_get formats k ≡ Some f) same at) ∙ here)
      (subst (λ k. IsOfWidth f.signed f.wl (cell_at nums k)) same one))
]

-- all of them
pub held_fit : (formats : List Format) (nums : List ℤ) → length nums ≡ length formats → AreHeld formats nums (length nums) → NumbersFit (map shape_written formats) nums
held_fit formats nums long held = record {
  long = long ∙ sym (length-map formats shape_written);
  each = λ j s at. by j s (slice_get formats j) refl (sym (slice_get-map shape_written formats j) ∙ at);
}
  where
    by : (j : ℕ) (s : Shape) (o : Option Format) → slice_get formats j ≡ o → option_map shape_written o ≡ Some (Some s) → IsOfWidth s.signed s.wl (cell_at nums j)
    by j s None is same = absurd cc
    by j s (Some f) is same = subst (λ (x : Option (Option Shape)). IfSome x (λ y. IfSome y (λ t. IsOfWidth t.signed t.wl (cell_at nums j)))) same
        (held j f (let inside = slice_get_within formats j f is in omega (arith, inside, long)) is)

-- one of numbers that fit
pub fits_one : (formats : List Format) (nums : List ℤ) (n : ℕ) (f : Format) → slice_get formats n ≡ Some f → NumbersFit (map shape_written formats) nums
    → IsOfWidth f.signed f.wl (cell_at nums n)
fits_one formats nums n f at fits = fits.each n _ (slice_get-map shape_written formats n ∙ ap (option_map shape_written) at)
