-- Numbers of at most 64 bits, in lists.
use Rattle.std.proofs.Common.{Bool, true, false, if◌then◌else◌, ◌≡◌, ℕ, zero, suc, ◌^◌, ◌<◌, List, [], ◌∷◌, ◌++◌, map, take, replicate, ℤ, pos, Some, subst, arith}
use Rattle.std.specs.List.{AllByRecursion}
use Rattle.std.specs.Prelude.{slice_get, slice_index_or, slice_set, unsigned_abs}
use Rattle.tdf_expr_state.specs.State.{cell_at}
use Rattle.tdf_fixed.specs.declared.raw.Raw.{Raw}
use Rattle.tdf_streams.specs.Cluster.{zero_sample}

abbrev pub IsSmall : ℤ → Type 0
IsSmall num = unsigned_abs num < 2 ^ 64

pub zero_small : IsSmall (pos 0)
zero_small = omega arith

abbrev pub IsSmallRaw : Raw → Type 0
IsSmallRaw value = IsSmall value.num

abbrev pub AreSmall : List Raw → Type 0
AreSmall values = AllByRecursion IsSmallRaw values

-- ---- numbers by place

abbrev pub HasSmall : List ℤ → Type 0
HasSmall nums = (j : ℕ) → IsSmall (cell_at nums j)

pub small_none : HasSmall []
small_none j = zero_small

pub small_more : (x : ℤ) (xs : List ℤ) → IsSmall x → HasSmall xs → HasSmall (x ∷ xs)
small_more x xs a h zero = a
small_more x xs a h (suc j) = h j

pub small_set : (nums : List ℤ) (place : ℕ) (num : ℤ) → HasSmall nums → IsSmall num → HasSmall (slice_set nums place num)
small_set [] place num h a = h
small_set (x ∷ xs) zero num h a = small_more num xs a (λ j. h (suc j))
small_set (x ∷ xs) (suc place) num h a = small_more x (slice_set xs place num) (h 0) (small_set xs place num (λ j. h (suc j)) a)

pub small_both : (xs ys : List ℤ) → HasSmall xs → HasSmall ys → HasSmall (xs ++ ys)
small_both [] ys g h = h
small_both (x ∷ xs) ys g h = small_more x (xs ++ ys) (g 0) (small_both xs ys (λ j. g (suc j)) h)

pub small_take : (n : ℕ) (xs : List ℤ) → HasSmall xs → HasSmall (take n xs)
small_take zero xs h = small_none
small_take (suc n) [] h = small_none
small_take (suc n) (x ∷ xs) h = small_more x (take n xs) (h 0) (small_take n xs (λ j. h (suc j)))

pub small_zeros : (n : ℕ) → HasSmall (replicate n (pos 0))
small_zeros zero = small_none
small_zeros (suc n) = small_more (pos 0) (replicate n (pos 0)) zero_small (small_zeros n)

pub small_nums : (values : List Raw) → AreSmall values → HasSmall (map (λ (v : Raw). v.num) values)
small_nums [] h = small_none
small_nums (v ∷ vs) h = small_more v.num (map (λ (x : Raw). x.num) vs) h.0 (small_nums vs h.1)

-- ---- a fact of one of two

pub either : {A : Type 0} (P : A → Type 0) (b : Bool) (x y : A) → P x → P y → P (if b then x else y)
either P true x y g h = g
either P false x y g h = h

-- ---- a fact of each item

module _ {A : Type 0} (P : A → Type 0) where
  pub all_set : (xs : List A) (i : ℕ) (y : A) → AllByRecursion P xs → P y → AllByRecursion P (slice_set xs i y)
  all_set [] i y h a = tt
  all_set (x ∷ xs) zero y h a = (a, h.1)
  all_set (x ∷ xs) (suc i) y h a = (h.0, all_set xs i y h.1 a)

  pub all_both : (xs ys : List A) → AllByRecursion P xs → AllByRecursion P ys → AllByRecursion P (xs ++ ys)
  all_both [] ys g h = h
  all_both (x ∷ xs) ys g h = (g.0, all_both xs ys g.1 h)

  pub all_at : (xs : List A) (i : ℕ) (x : A) → AllByRecursion P xs → slice_get xs i ≡ Some x → P x
  all_at [] i x h e = absurd (cc)
  all_at (y ∷ ys) zero x h e = let same : y ≡ x = cc in subst P same h.0
  all_at (y ∷ ys) (suc i) x h e = all_at ys i x h.1 e

  pub all_or : (xs : List A) (i : ℕ) (d : A) → AllByRecursion P xs → P d → P (slice_index_or xs i d)
  all_or [] i d h a = a
  all_or (x ∷ xs) zero d h a = h.0
  all_or (x ∷ xs) (suc i) d h a = all_or xs i d h.1 a

  pub all_same : (n : ℕ) (x : A) → P x → AllByRecursion P (replicate n x)
  all_same zero x a = tt
  all_same (suc n) x a = (a, all_same n x a)

module _ {A B : Type 0} (P : B → Type 0) (f : A → B) where
  pub all_made : ((x : A) → P (f x)) → (xs : List A) → AllByRecursion P (map f xs)
  all_made each [] = tt
  all_made each (x ∷ xs) = (each x, all_made each xs)

pub value_small : (values : List Raw) (place : ℕ) → AreSmall values → IsSmallRaw (slice_index_or values place zero_sample)
value_small values place h = all_or IsSmallRaw values place zero_sample h zero_small
