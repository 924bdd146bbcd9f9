-- Sums of lists that are as long.
use Rattle.std.proofs.Common.{◌≡◌, ℕ, zero, suc, ◌+◌, ◌<◌, ◌≤◌, inl, inr, List, [], ◌∷◌, length, set, slice_index, refl, arith}
use Rattle.std.specs.List.{sum}
use Rattle.std.proofs.lemmas.Bool.{cases_lt}
use Rattle.std.proofs.lemmas.List.Sums.{sum_by-cons, sum_by-set}
use Rattle.tdf_streams.proofs.Lists.{zeros}

sum_cons : (x : ℕ) (xs : List ℕ) → sum (x ∷ xs) ≡ x + sum xs
sum_cons x xs = sum_by-cons (λ (n : ℕ). n) x xs

pub record SomeLess (xs ys : List ℕ) : Type 0 where
  pub at : ℕ
  pub inside : at < length ys
  pub less : slice_index xs at < slice_index ys at

pub some_less : (xs ys : List ℕ) → length xs ≡ length ys → sum xs < sum ys → SomeLess xs ys
some_less [] [] long less = absurd (omega (arith, less))
some_less [] (y ∷ ys) long less = absurd (omega (arith, long))
some_less (x ∷ xs) [] long less = absurd (omega (arith, long))
some_less (x ∷ xs) (y ∷ ys) long less = elim (cases_lt x y) [
  | inl here ↦ record { at = 0; inside = omega arith; less = here }
  | inr not_here ↦ (let a = sum_cons x xs in let b = sum_cons y ys in
      let rest = some_less xs ys (omega (arith, long)) (omega (arith, less, not_here, a, b)) in
      record { at = suc rest.at; inside = (let i = rest.inside in omega (arith, i)); less = rest.less })
]

at_most : (xs ys : List ℕ) → length xs ≡ length ys → ((i : ℕ) → slice_index xs i ≤ slice_index ys i) → sum xs ≤ sum ys
at_most [] [] long most = omega arith
at_most [] (y ∷ ys) long most = absurd (omega (arith, long))
at_most (x ∷ xs) [] long most = absurd (omega (arith, long))
at_most (x ∷ xs) (y ∷ ys) long most = let a = sum_cons x xs in let b = sum_cons y ys in let h : x ≤ y = most 0 in
    let r = at_most xs ys (omega (arith, long)) (λ i. most (suc i)) in omega (arith, a, b, h, r)

pub all_same : (xs ys : List ℕ) → length xs ≡ length ys → ((i : ℕ) → slice_index xs i ≤ slice_index ys i) → sum xs ≡ sum ys → (i : ℕ) → slice_index xs i ≡ slice_index ys i
all_same [] [] long most same i = refl
all_same [] (y ∷ ys) long most same i = absurd (omega (arith, long))
all_same (x ∷ xs) [] long most same i = absurd (omega (arith, long))
all_same (x ∷ xs) (y ∷ ys) long most same zero = let a = sum_cons x xs in let b = sum_cons y ys in let h : x ≤ y = most 0 in
    let r = at_most xs ys (omega (arith, long)) (λ i. most (suc i)) in omega (arith, a, b, h, r, same)
all_same (x ∷ xs) (y ∷ ys) long most same (suc i) = let a = sum_cons x xs in let b = sum_cons y ys in let h : x ≤ y = most 0 in
    let r = at_most xs ys (omega (arith, long)) (λ i. most (suc i)) in
    all_same xs ys (omega (arith, long)) (λ i. most (suc i)) (omega (arith, a, b, h, r, same)) i

pub zeros_sum : {A : Type 0} (xs : List A) → sum (zeros xs) ≡ 0
unfolding zeros
zeros_sum [] = refl
zeros_sum (x ∷ xs) = let a = sum_cons 0 (zeros xs) in let b = zeros_sum xs in omega (arith, a, b)

-- one of them grows by one
pub grown_sum : (xs : List ℕ) (i : ℕ) → i < length xs → sum (set xs i (slice_index xs i + 1)) ≡ sum xs + 1
grown_sum xs i inside = let s = sum_by-set (λ (n : ℕ). n) xs i (slice_index xs i + 1) 0 inside in omega (arith, s)
