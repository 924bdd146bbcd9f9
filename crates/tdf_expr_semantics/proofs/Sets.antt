-- A number set in a list whose numbers fit.
use Rattle.std.proofs.Common.{◌≡◌, ◌∙◌, ℕ, ◌<◌, ◌≤◌, List, Option, Some, length, sym, ap, subst, ◌⊎◌, ◌≢◌, inl, inr, ℤ, pos}
use Rattle.std.proofs.lemmas.Bool.{cases_eq}
use Rattle.std.proofs.lemmas.List.{length-set, get_or-set_same, get_or-set_other}
use Rattle.std.proofs.lemmas.Option.{slice_get_within}
use Rattle.std.specs.Prelude.{slice_get, slice_set, slice_index}
use Rattle.tdf_fixed.specs.Overflow.{IsOfWidth}
use Rattle.tdf_expr_semantics.specs.Fits.{NumbersFit, RatesFit}
use Rattle.tdf_expr_semantics.specs.Places.{RateLimits}
use Rattle.tdf_expr_state.specs.State.{cell_at}
use Rattle.tdf_lang_tree.specs.declared.shapes.Shape.{Shape}

-- the list after one number of the format of its place was set
pub numbers_set : (shapes : List (Option Shape)) (nums : List ℤ) (j : ℕ) (num : ℤ) (s : Shape) → NumbersFit shapes nums → slice_get shapes j ≡ Some (Some s)
    → IsOfWidth s.signed s.wl num → NumbersFit shapes (slice_set nums j num)
numbers_set shapes nums j num s fits at is_in = record { long = length-set nums j num ∙ fits.long; each = λ i t is. go i t is (cases_eq i j) }
  where
    within : j < length nums
    within = subst (λ n. j < n) (sym fits.long) (slice_get_within shapes j (Some s) at)

    held : Option (Option Shape) → Shape
    held (Some (Some t)) = t
    held _ = s

    go : (i : ℕ) (t : Shape) → slice_get shapes i ≡ Some (Some t) → (i ≡ j) ⊎ (i ≢ j) → IsOfWidth t.signed t.wl (cell_at (slice_set nums j num) i)
    go i t is (inl same) =
        let shape : s ≡ t = ap held (sym at ∙ ap (slice_get shapes) (sym same) ∙ is) in
        let value : cell_at (slice_set nums j num) i ≡ num = ap (cell_at (slice_set nums j num)) same ∙ get_or-set_same nums j num (pos 0) within in
        subst (λ (z : ℤ). IsOfWidth t.signed t.wl z) (sym value) (subst (λ (u : Shape). IsOfWidth u.signed u.wl num) shape is_in)
    go i t is (inr other) =
        subst (λ (z : ℤ). IsOfWidth t.signed t.wl z) (sym (get_or-set_other nums j i num (pos 0) other)) (fits.each i t is)

pub rates_set : (limits : List RateLimits) (rates : List ℕ) (j value : ℕ) (l : RateLimits) → RatesFit limits rates → slice_get limits j ≡ Some l
    → l.least ≤ value → value ≤ l.greatest → RatesFit limits (slice_set rates j value)
rates_set limits rates j value l fits at low high = record { long = length-set rates j value ∙ fits.long; each = λ i t is. go i t is (cases_eq i j) }
  where
    within : j < length rates
    within = subst (λ n. j < n) (sym fits.long) (slice_get_within limits j l at)

    held : Option RateLimits → RateLimits
    held (Some t) = t
    held _ = l

    go : (i : ℕ) (t : RateLimits) → slice_get limits i ≡ Some t → (i ≡ j) ⊎ (i ≢ j)
        → (t.least ≤ slice_index (slice_set rates j value) i) × (slice_index (slice_set rates j value) i ≤ t.greatest)
    go i t is (inl same) =
        let limit : l ≡ t = ap held (sym at ∙ ap (slice_get limits) (sym same) ∙ is) in
        let now : slice_index (slice_set rates j value) i ≡ value = ap (slice_index (slice_set rates j value)) same ∙ get_or-set_same rates j value 0 within in
        subst (λ n. (t.least ≤ n) × (n ≤ t.greatest)) (sym now) (subst (λ (u : RateLimits). (u.least ≤ value) × (value ≤ u.greatest)) limit (low, high))
    go i t is (inr other) =
        subst (λ n. (t.least ≤ n) × (n ≤ t.greatest)) (sym (get_or-set_other rates j i value 0 other)) (fits.each i t is)
