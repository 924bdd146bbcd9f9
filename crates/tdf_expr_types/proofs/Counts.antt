-- Weights up to a limit.
use Rattle.std.proofs.Common.{◌≡◌, ℕ, zero, suc, ◌+◌, ◌*◌, ◌<◌, ◌≤◌, min, refl, ⊎_elim, arith}
use Rattle.std.proofs.Math.Nat.{mul-le-mul}
use Rattle.std.proofs.lemmas.Bool.{cases_lt}
use Rattle.tdf_expr_types.specs.machine.Weights.{capped}

pub capped_sum : (x y : ℕ) → capped (1 + (capped x + capped y)) ≡ capped (1 + (x + y))
unfolding capped
capped_sum x y = omega arith

pub capped_times : (n x : ℕ) → capped (1 + capped n * capped x) ≡ capped (1 + n * x)
unfolding capped
capped_times n zero = omega arith
capped_times n (suc x) = ⊎_elim
    (λ (l : n < 65537). ⊎_elim
    (λ (k : suc x < 65537). let a : min n 65537 ≡ n = omega (arith, l) in let b : min (suc x) 65537 ≡ suc x = omega (arith, k) in rw (a, b) refl)
    (λ (k : 65537 ≤ suc x). large n (suc x) l k)
    (cases_lt (suc x) 65537))
    (λ (l : 65537 ≤ n). let a : min n 65537 ≡ 65537 = omega (arith, l) in
    let o : 1 ≤ suc x = omega arith in let p : 65537 * 1 ≤ n * suc x = mul-le-mul l o in
    let r : 65537 ≤ 65537 = omega arith in let r' : 1 ≤ min (suc x) 65537 = omega arith in
    let q : 65537 * 1 ≤ 65537 * min (suc x) 65537 = mul-le-mul r r' in
    rw a (omega (arith, p, q)))
    (cases_lt n 65537)
  where
    large : (n y : ℕ) → n < 65537 → 65537 ≤ y → min (1 + min n 65537 * min y 65537) 65537 ≡ min (1 + n * y) 65537
    large zero y l k = omega arith
    large (suc n) y l k =
        let a : min (suc n) 65537 ≡ suc n = omega (arith, l) in
        let b : min y 65537 ≡ 65537 = omega (arith, k) in
        let o : 1 ≤ suc n = omega arith in let r : 65537 ≤ 65537 = omega arith in
        let p : 1 * 65537 ≤ suc n * y = mul-le-mul o k in
        let q : 1 * 65537 ≤ suc n * 65537 = mul-le-mul o r in
        rw (a, b) (omega (arith, p, q))

pub capped_next : (t x rest : ℕ) → capped (capped (t + capped x) + rest) ≡ capped (t + (x + rest))
unfolding capped
capped_next t x rest = omega arith

pub bounded_product : (a b : ℕ) → a ≤ 65537 → b ≤ 65537 → a * b ≤ 65537 * 65537
bounded_product a b p q = mul-le-mul p q

pub capped_0 : capped 0 ≡ 0
unfolding capped
capped_0 = omega arith

pub capped_1 : capped 1 ≡ 1
unfolding capped
capped_1 = omega arith

pub capped_twice : (n : ℕ) → capped (capped n) ≡ capped n
unfolding capped
capped_twice n = omega arith

pub capped_end : (n : ℕ) → n ≤ 65537 → capped (n + 0) ≡ n
unfolding capped
capped_end n few = omega (arith, few)

pub ruleset weight_laws = (bounded_product, capped_sum, capped_times, capped_next)
