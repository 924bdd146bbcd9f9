-- Items of lists by their places.
use Rattle.std.proofs.Common.{◌≡◌, ℕ, true, false, Option, Some, None, List, map, slice_get, option_map, refl, ap, sym, ◌∙◌, arith}
use Rattle.std.proofs.lemmas.Option.{slice_get-map}
use Rattle.tdf_streams.proofs.Api.{none_some, some_same}

pub true_false : true ≡ false → ⊥
true_false e = absurd (grind (arith, e))

some_of : {A B : Type 0} (f : A → B) (o : Option A) (y : B) → option_map f o ≡ Some y → (x : A) × (o ≡ Some x) × (f x ≡ y)
some_of f None y h = none_some y h
some_of f (Some x) y h = (x, refl, some_same (f x) y h)

-- lists that are alike have alike items
pub alike : {A B : Type 0} (f : A → B) (xs ys : List A) (i : ℕ) (x : A) → map f xs ≡ map f ys → slice_get xs i ≡ Some x → (y : A) × (slice_get ys i ≡ Some y) × (f y ≡ f x)
alike f xs ys i x same at = some_of f (slice_get ys i) (f x)
    (sym (slice_get-map f ys i) ∙ ap (λ zs. slice_get zs i) (sym same) ∙ slice_get-map f xs i ∙ ap (option_map f) at)
