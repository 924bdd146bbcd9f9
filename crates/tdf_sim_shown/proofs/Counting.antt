-- How many positions of a period lie before a time.
use Rattle.std.proofs.Common.{◌≡◌, ◌<◌, ◌≤◌, ◌+◌, ◌-◌, ◌*◌, ◌/◌, ℕ, zero, suc, Bool, true, false, min, nat_lt, refl, ap, inl, inr, arith}
use Rattle.std.proofs.Math.Nat.{add-mul, div-mul-le_self, lt-div-mul-add, mul-le-mul_right}
use Rattle.std.proofs.lemmas.Bool.{cases_lt, le-ltb, lt-ltb}
use Rattle.std.proofs.lemmas.List.Sums.{sum_by-cons}
use Rattle.std.specs.List.{count_by, range_with_len}
use Rattle.std.specs.Prelude.{cond}
use Rattle.tdf_sim_shown.specs.Resumed.{skipped_in}

module _ (f : ℕ → Bool) (k : ℕ) (below : (i : ℕ) → i < k → f i ≡ true) (above : (i : ℕ) → k ≤ i → f i ≡ false) where
  count_all : (a n : ℕ) → a + n ≤ k → count_by f (range_with_len a n) ≡ n
  count_all a zero low = refl
  count_all a (suc n) low =
      let c : count_by f (range_with_len a (suc n)) ≡ cond (f a) 1 0 + count_by f (range_with_len (a + 1) n) = sum_by-cons (λ y. cond (f y) 1 0) a (range_with_len (a + 1) n) in
      let r = count_all (a + 1) n (omega (arith, low)) in
      let o : ◌≡◌ {A = ℕ} (cond (f a) 1 0) 1 = ap (λ b. cond b 1 0) (below a (omega (arith, low))) in omega (arith, c, r, o)

  pub count_none : (a n : ℕ) → k ≤ a → count_by f (range_with_len a n) ≡ 0
  count_none a zero high = refl
  count_none a (suc n) high =
      let c : count_by f (range_with_len a (suc n)) ≡ cond (f a) 1 0 + count_by f (range_with_len (a + 1) n) = sum_by-cons (λ y. cond (f y) 1 0) a (range_with_len (a + 1) n) in
      let r = count_none (a + 1) n (omega (arith, high)) in
      let o : ◌≡◌ {A = ℕ} (cond (f a) 1 0) 0 = ap (λ b. cond b 1 0) (above a high) in omega (arith, c, r, o)

  count_to : (a n : ℕ) → a ≤ k → k ≤ a + n → count_by f (range_with_len a n) ≡ k - a
  count_to a zero low high = (let e : 0 ≡ k - a = omega (arith, low, high) in e)
  count_to a (suc n) low high = elim (cases_lt a k) [
    | inl less ↦ (
        let c : count_by f (range_with_len a (suc n)) ≡ cond (f a) 1 0 + count_by f (range_with_len (a + 1) n) = sum_by-cons (λ y. cond (f y) 1 0) a (range_with_len (a + 1) n) in
        let r = count_to (a + 1) n (omega (arith, less)) (omega (arith, high)) in
        let o : ◌≡◌ {A = ℕ} (cond (f a) 1 0) 1 = ap (λ b. cond b 1 0) (below a less) in omega (arith, c, r, o, less))
    | inr past ↦ (let z = count_none a (suc n) past in omega (arith, z, past, low))
  ]

  pub count_is : (n : ℕ) → count_by f (range_with_len 0 n) ≡ min n k
  count_is n = elim (cases_lt k n) [
    | inl less ↦ (let c = count_to 0 n (omega arith) (omega (arith, less)) in omega (arith, c, less))
    | inr more ↦ (let c = count_all 0 n (omega (arith, more)) in omega (arith, c, more))
  ]

pub skipped_some : (since step count rows : ℕ) → 0 < step → since < rows → skipped_in since step count rows ≡ min count ((rows - since - 1) / step + 1)
skipped_some since step count rows some later = count_is (λ i. nat_lt (since + i * step) rows) ((rows - since - 1) / step + 1)
    (λ i low. lt-ltb (since + i * step) rows (let m : i * step ≤ (rows - since - 1) / step * step = mul-le-mul_right step (omega (arith, low)) in let d = div-mul-le_self (rows - since - 1) step in omega (arith, m, d, later)))
    (λ i high. le-ltb (since + i * step) rows (
    let m : ((rows - since - 1) / step + 1) * step ≤ i * step = mul-le-mul_right step high in
    let a = add-mul ((rows - since - 1) / step) 1 step in
    let d : rows - since - 1 < (rows - since - 1) / step * step + step = lt-div-mul-add some in omega (arith, m, a, d, later))) count

all_counted : (f : ℕ → Bool) → ((i : ℕ) → f i ≡ true) → (a n : ℕ) → count_by f (range_with_len a n) ≡ n
all_counted f each a zero = refl
all_counted f each a (suc n) =
    let c : count_by f (range_with_len a (suc n)) ≡ cond (f a) 1 0 + count_by f (range_with_len (a + 1) n) = sum_by-cons (λ y. cond (f y) 1 0) a (range_with_len (a + 1) n) in
    let r = all_counted f each (a + 1) n in
    let o : ◌≡◌ {A = ℕ} (cond (f a) 1 0) 1 = ap (λ b. cond b 1 0) (each a) in omega (arith, c, r, o)

pub skipped_all : (since step count rows : ℕ) → step ≡ 0 → since < rows → skipped_in since step count rows ≡ count
skipped_all since step count rows none later = all_counted (λ i. nat_lt (since + i * step) rows)
    (λ i. lt-ltb (since + i * step) rows (let z : i * step ≡ i * 0 = ap (λ k. i * k) none in omega (arith, z, later))) 0 count

pub skipped_nothing : (since step count rows : ℕ) → rows ≤ since → skipped_in since step count rows ≡ 0
skipped_nothing since step count rows early = count_none (λ i. nat_lt (since + i * step) rows) 0 (λ i low. absurd (omega (arith, low)))
    (λ i high. le-ltb (since + i * step) rows (omega (arith, early))) 0 count (omega arith)
