-- Every n-th of a list: some are left out, then one comes, and so on.
use Rattle.std.proofs.Common.{◌≡◌, ℕ, zero, suc, ◌+◌, ◌-◌, ◌*◌, ◌/◌, ◌%◌, ◌<◌, ◌≤◌, Bool, true, false, nat_eq, List, [], ◌∷◌, ◌++◌, length, refl, arith, ◌∙◌, sym, ap, subst, map, ⊎_elim, if◌then◌else◌}
use Rattle.std.specs.Prelude.{filter}
use Rattle.std.specs.List.{enumerate_from}
use Rattle.std.proofs.lemmas.Bool.{cases_Bool, cases_lt, eqb-true}
use Rattle.std.proofs.lemmas.Nat.{div-add-mod'}
use Rattle.std.proofs.Math.Nat.{mul-le-mul_right, mul-mod_left}
use Rattle.std.proofs.lemmas.Bool.Decides.{nat_tests}
use Rattle.tdf_sampling.specs.Choice.{nth}

twice_less : (a b : ℕ) → 0 < a → 0 < b → (b - 1) + (a - 1) * b ≡ a * b - 1
twice_less zero b some more = absurd (omega arith)
twice_less (suc a) b some more = let e : suc a * b ≡ b + a * b = grind arith in let f : suc a - 1 ≡ a = omega arith in rw f (omega arith)

more_less : (i b : ℕ) → 0 < b → zero + suc i * b ≡ suc ((b - 1) + i * b)
more_less i b more = let e : suc i * b ≡ b + i * b = grind arith in omega arith

pub mod_none : (k n q : ℕ) → 0 < n → k ≡ q * n → k % n ≡ 0
mod_none k n q some e = ap (λ x. x % n) e ∙ mul-mod_left q n

-- between two multiples there is none
apart : (k n q s : ℕ) → suc s < n → k + suc s ≡ q * n → k % n ≡ 0 → ⊥
apart k n q s less e none =
    let whole : k / n * n + k % n ≡ k = div-add-mod' k n in
    let is : (k / n) * n + suc s ≡ q * n = omega (arith, whole, none, e) in
    ⊎_elim
    (λ (low : k / n < q). let up : (k / n + 1) * n ≤ q * n = mul-le-mul_right n (omega arith) in let f : (k / n + 1) * n ≡ k / n * n + n = grind arith in omega arith)
    (λ (high : q ≤ k / n). let up : q * n ≤ k / n * n = mul-le-mul_right n (omega arith) in omega arith)
    (cases_lt (k / n) q)

some_product : (a b : ℕ) → 0 < a → 0 < b → 0 < a * b
some_product zero b some more = absurd (omega arith)
some_product (suc a) b some more = let e : suc a * b ≡ b + a * b = grind arith in omega arith

abbrev thin : {A : Type 0} → (skip n : ℕ) → List A → List A
thin skip n [] = []
thin zero n (x ∷ xs) = x ∷ thin (n - 1) n xs
thin (suc skip) n (x ∷ xs) = thin skip n xs

module _ {A : Type 0} where
  thin_same : (i j n : ℕ) (xs : List A) → i ≡ j → thin i n xs ≡ thin j n xs
  thin_same i j n xs e = ap (λ k. thin k n xs) e

  -- thinned twice
  thin_twice : (i j a b : ℕ) (xs : List A) → 0 < a → 0 < b → j < b → thin i a (thin j b xs) ≡ thin (j + i * b) (a * b) xs
  thin_twice i j a b [] some more less = refl
  thin_twice i (suc j) a b (x ∷ xs) some more less =
      let f : suc j + i * b ≡ suc (j + i * b) = omega arith in
      thin_twice i j a b xs some more (omega arith) ∙ ap (λ k. thin k (a * b) (x ∷ xs)) (sym f)
  thin_twice zero zero a b (x ∷ xs) some more less =
      let g : zero + zero * b ≡ zero = grind arith in
      let f : (b - 1) + (a - 1) * b ≡ a * b - 1 = twice_less a b some more in
      ap (λ t. x ∷ t) (thin_twice (a - 1) (b - 1) a b xs some more (omega arith) ∙ thin_same ((b - 1) + (a - 1) * b) (a * b - 1) (a * b) xs f)
      ∙ ap (λ k. thin k (a * b) (x ∷ xs)) (sym g)
  thin_twice (suc i) zero a b (x ∷ xs) some more less =
      let f : zero + suc i * b ≡ suc ((b - 1) + i * b) = more_less i b more in
      thin_twice i (b - 1) a b xs some more (omega arith) ∙ ap (λ k. thin k (a * b) (x ∷ xs)) (sym f)

-- the elements whose number, from k on, is a multiple of n
chosen_from : {A : Type 0} → (n k : ℕ) → List A → List A
chosen_from n k rows = map (λ row. row.1) (filter (λ row. nat_eq (row.0 % n) 0) (enumerate_from k rows))

module _ {A : Type 0} where
  chosen_none : (n k : ℕ) → chosen_from {A = A} n k [] ≡ []
  unfolding chosen_from
  chosen_none n k = refl

  chosen_by : (n k : ℕ) (x : A) (xs : List A) (b : Bool) → nat_eq (k % n) 0 ≡ b
      → chosen_from n k (x ∷ xs) ≡ (if b then x ∷ chosen_from n (k + 1) xs else chosen_from n (k + 1) xs)
  unfolding chosen_from
  chosen_by n k x xs true e = rw e refl
  chosen_by n k x xs false e = rw e refl

  thinned : (n k skip q : ℕ) (xs : List A) → 0 < n → skip < n → k + skip ≡ q * n → chosen_from n k xs ≡ thin skip n xs
  thinned n k skip q [] some less e = chosen_none n k
  thinned n k zero q (x ∷ xs) some less e =
      let yes_it_is : nat_eq (k % n) 0 ≡ true = let f = mod_none k n q some (omega arith) in grind (arith, nat_tests) in
      let next : k + 1 + (n - 1) ≡ (q + 1) * n = let f : (q + 1) * n ≡ q * n + n = grind arith in omega arith in
      chosen_by n k x xs true yes_it_is ∙ ap (λ t. x ∷ t) (thinned n (k + 1) (n - 1) (q + 1) xs some (omega arith) next)
  thinned n k (suc s) q (x ∷ xs) some less e =
      let not_it : nat_eq (k % n) 0 ≡ false = ⊎_elim
      (λ (yes_it_is : nat_eq (k % n) 0 ≡ true). absurd (apart k n q s less e (eqb-true (k % n) 0 yes_it_is)))
      (λ (no_one : nat_eq (k % n) 0 ≡ false). no_one)
      (cases_Bool (nat_eq (k % n) 0)) in
      chosen_by n k x xs false not_it ∙ thinned n (k + 1) s q xs some (omega arith) (omega arith)

  nth_thin : (n : ℕ) (xs : List A) → 0 < n → nth n xs ≡ thin 0 n xs
  unfolding nth chosen_from
  nth_thin n xs some = thinned n 0 0 0 xs some some (grind arith)

  all_kept : (xs : List A) → thin 0 1 xs ≡ xs
  all_kept [] = refl
  all_kept (x ∷ xs) = ap (λ t. x ∷ t) (all_kept xs)

  pub once : (xs : List A) → nth 1 xs ≡ xs
  once xs = nth_thin 1 xs (omega arith) ∙ all_kept xs

  pub twice : (a b : ℕ) (xs : List A) → 0 < a → 0 < b → nth a (nth b xs) ≡ nth (a * b) xs
  twice a b xs some more =
      let f : zero + zero * b ≡ zero = grind arith in
      nth_thin a (nth b xs) some ∙ ap (thin 0 a) (nth_thin b xs more) ∙ thin_twice 0 0 a b xs some more more ∙ thin_same (zero + zero * b) 0 (a * b) xs f
      ∙ sym (nth_thin (a * b) xs (some_product a b some more))

  -- one element more

  one_more : (n k : ℕ) (x : A) (b : Bool) → nat_eq (k % n) 0 ≡ b → chosen_from n k (x ∷ []) ≡ chosen_from n k [] ++ (if nat_eq (k % n) 0 then x ∷ [] else [])
  one_more n k x true g = chosen_by n k x [] true g ∙ rw (chosen_none n k, chosen_none n (k + 1), g) refl
  one_more n k x false g = chosen_by n k x [] false g ∙ rw (chosen_none n k, chosen_none n (k + 1), g) refl

  more_by : (n k j : ℕ) (y : A) (ys : List A) (x : A) (b : Bool) → nat_eq (k % n) 0 ≡ b
      → chosen_from n (k + 1) (ys ++ x ∷ []) ≡ chosen_from n (k + 1) ys ++ (if nat_eq (j % n) 0 then x ∷ [] else [])
      → chosen_from n k ((y ∷ ys) ++ x ∷ []) ≡ chosen_from n k (y ∷ ys) ++ (if nat_eq (j % n) 0 then x ∷ [] else [])
  more_by n k j y ys x true g more = chosen_by n k y (ys ++ x ∷ []) true g ∙ ap (λ t. y ∷ t) more ∙ ap (λ t. t ++ (if nat_eq (j % n) 0 then x ∷ [] else [])) (sym (chosen_by n k y ys true g))
  more_by n k j y ys x false g more = chosen_by n k y (ys ++ x ∷ []) false g ∙ more ∙ ap (λ t. t ++ (if nat_eq (j % n) 0 then x ∷ [] else [])) (sym (chosen_by n k y ys false g))

  chosen_more : (n k j : ℕ) (xs : List A) (x : A) → k + length xs ≡ j → chosen_from n k (xs ++ x ∷ []) ≡ chosen_from n k xs ++ (if nat_eq (j % n) 0 then x ∷ [] else [])
  chosen_more n k j [] x e = let f : k ≡ j = omega (arith, e) in
      subst (λ i. chosen_from n k (x ∷ []) ≡ chosen_from n k [] ++ (if nat_eq (i % n) 0 then x ∷ [] else [])) f (one_more n k x (nat_eq (k % n) 0) refl)
  chosen_more n k j (y ∷ ys) x e = more_by n k j y ys x (nat_eq (k % n) 0) refl (chosen_more n (k + 1) j ys x (omega (arith, e)))

  pub nth_more : (n j : ℕ) (xs : List A) (x : A) → length xs ≡ j → nth n (xs ++ x ∷ []) ≡ nth n xs ++ (if nat_eq (j % n) 0 then x ∷ [] else [])
  unfolding nth chosen_from
  nth_more n j xs x e = chosen_more n 0 j xs x (omega (arith, e))

  pub nth_none : (n : ℕ) → nth {A = A} n [] ≡ []
  unfolding nth
  nth_none n = refl
