-- Items of lists by their places.
use Rattle.std.proofs.Common.{◌≡◌, ℕ, zero, suc, ◌<◌, List, [], ◌∷◌, length, slice_get, Some, refl, arith}

pub get_some : {A : Type 0} (xs : List A) (c : ℕ) → c < length xs → (x : A) × (slice_get xs c ≡ Some x)
get_some [] c less = absurd (omega (arith, less))
get_some (x ∷ xs) zero less = (x, refl)
get_some (x ∷ xs) (suc c) less = get_some xs c (omega (arith, less))

pub get_less : {A : Type 0} (xs : List A) (c : ℕ) (x : A) → slice_get xs c ≡ Some x → c < length xs
get_less [] c x h = absurd (grind (arith, h))
get_less (y ∷ ys) zero x h = omega arith
get_less (y ∷ ys) (suc c) x h = let l : c < length ys = get_less ys c x h in omega (arith, l)
