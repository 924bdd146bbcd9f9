-- Facts of each item of lists, and of two lists that are gone through together.
use Rattle.std.proofs.Common.{◌≡◌, ◌∙◌, ℕ, zero, suc, ◌+◌, List, [], ◌∷◌, Some, length, map, slice_get, refl, ap, arith}
use Rattle.std.specs.List.{AllByRecursion, AllZip, range_with_len}
use Rattle.tdf_streams.proofs.Api.{none_some, some_same}

pub all_each : {A : Type 0} (P : A → Type 0) (xs : List A) → ((i : ℕ) (x : A) → slice_get xs i ≡ Some x → P x) → AllByRecursion P xs
all_each P [] each = tt
all_each P (x ∷ xs) each = (each 0 x refl, all_each P xs (λ i y at. each (suc i) y at))

-- two facts of each item give a third
pub all_both : {A : Type 0} (P Q R : A → Type 0) → ((x : A) → P x → Q x → R x) → (xs : List A) → AllByRecursion P xs → AllByRecursion Q xs → AllByRecursion R xs
all_both P Q R both [] ps qs = tt
all_both P Q R both (x ∷ xs) ps qs = (both x ps.0 qs.0, all_both P Q R both xs ps.1 qs.1)

-- a list that is made from another, with a third
pub zip_map : {A B C : Type 0} (R : B → C → Type 0) (f : A → B) (xs : List A) (ys : List C) → length xs ≡ length ys
    → ((i : ℕ) (x : A) (y : C) → slice_get xs i ≡ Some x → slice_get ys i ≡ Some y → R (f x) y) → AllZip R (map f xs) ys
zip_map R f [] [] long each = tt
zip_map R f [] (y ∷ ys) long each = absurd (omega (arith, long))
zip_map R f (x ∷ xs) [] long each = absurd (omega (arith, long))
zip_map R f (x ∷ xs) (y ∷ ys) long each = (each 0 x y refl refl, zip_map R f xs ys (omega (arith, long)) (λ i a b at there. each (suc i) a b at there))

-- where the fact is of the second item alone
pub zip_all : {A B C : Type 0} (Q : C → Type 0) (f : A → B) (xs : List A) (ys : List C) → length xs ≡ length ys → AllByRecursion Q ys → AllZip (λ x y. Q y) (map f xs) ys
zip_all Q f [] [] long all = tt
zip_all Q f [] (y ∷ ys) long all = absurd (omega (arith, long))
zip_all Q f (x ∷ xs) [] long all = absurd (omega (arith, long))
zip_all Q f (x ∷ xs) (y ∷ ys) long all = (all.0, zip_all Q f xs ys (omega (arith, long)) all.1)

-- numbers in a row
pub range_at : (a n i k : ℕ) → slice_get (range_with_len a n) i ≡ Some k → a + i ≡ k
range_at a zero i k at = none_some k at
range_at a (suc n) zero k at = let z : a + 0 ≡ a = omega arith in z ∙ some_same a k at
range_at a (suc n) (suc i) k at = let z : a + suc i ≡ a + 1 + i = omega arith in z ∙ range_at (a + 1) n i k at

pub range_long : (a n : ℕ) → length (range_with_len a n) ≡ n
range_long a zero = refl
range_long a (suc n) = ap suc (range_long (a + 1) n)
