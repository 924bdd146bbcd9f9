-- Common divisors of products.
use Rattle.std.proofs.Common.{◌≡◌, ◌∙◌, ℕ, zero, suc, ◌+◌, ◌*◌, ◌/◌, ◌%◌, ◌<◌, ◌≤◌, sym, ap, subst, arith, inl, inr, ◌⊎◌}
use Rattle.std.proofs.lemmas.Bool.{cases_eq}
use Rattle.std.proofs.lemmas.Nat.{mod-mul-add, mod_below}
use Rattle.std.proofs.lemmas.Nat.Gcd.{IsGcd-from_zero, IsGcd-from_mod}
use Rattle.std.proofs.Math.Nat.{div-add-mod', dvd-mul_right, mul-div_cancel', dvd_of_mul-dvd-mul_left, eq-zero_of_zero-dvd}
use Rattle.std.specs.Int.{IsGcd, ◌∣◌}

scaled_rest : (a b c : ℕ) → 0 < b → 0 < c → (a * c) % (b * c) ≡ (a % b) * c
scaled_rest a b c b_some c_some =
    ap (λ n. (n * c) % (b * c)) (sym (div-add-mod' a b)) ∙ ap (λ n. n % (b * c)) (parts (a / b) (a % b)) ∙ mod-mul-add (a / b) (b * c) (a % b * c) (less (a % b) (mod_below a b b_some))
  where
    parts : (q r : ℕ) → (q * b + r) * c ≡ q * (b * c) + r * c
    parts q r = grind arith

    less : (r : ℕ) → r < b → r * c < b * c
    less r small = grind (arith, small, c_some)

-- two numbers have a greatest common divisor, and it is scaled with them
pub record HasGcd (a b : ℕ) : Type 0 where
  pub divisor : ℕ
  pub is : IsGcd a b divisor
  pub scaled : (c : ℕ) → 0 < c → IsGcd (a * c) (b * c) (divisor * c)

none_gcd : (a b : ℕ) → b ≡ 0 → HasGcd a b
none_gcd a b none = record {
  divisor = a;
  is = IsGcd-from_zero a b none;
  scaled = λ c some. IsGcd-from_zero (a * c) (b * c) (ap (λ m. m * c) none ∙ omega arith);
}

step_gcd : (a b : ℕ) → 0 < b → HasGcd b (a % b) → HasGcd a b
step_gcd a b positive next = record {
  divisor = next.divisor;
  is = IsGcd-from_mod a b next.divisor next.is;
  scaled = λ c c_some. IsGcd-from_mod (a * c) (b * c) (next.divisor * c)
      (subst (λ r. IsGcd (b * c) r (next.divisor * c)) (sym (scaled_rest a b c positive c_some)) (next.scaled c c_some));
}

gcd_by : (n a b : ℕ) → b ≤ n → HasGcd a b
gcd_by zero a b few = none_gcd a b (omega (arith, few))
gcd_by (suc n) a b few = go (cases_eq b 0) (λ r small. gcd_by n b r small)
  where
    go : (b ≡ 0) ⊎ (b ≡ 0 → ⊥) → ((r : ℕ) → r ≤ n → HasGcd b r) → HasGcd a b
    go (inl none) next = none_gcd a b none
    go (inr some) next =
        let positive : 0 < b = omega (arith, some) in
        let small = mod_below a b positive in
        step_gcd a b positive (next (a % b) (omega (arith, small, few)))

pub gcd_of : (a b : ℕ) → HasGcd a b
gcd_of a b = gcd_by b a b (omega arith)

-- numbers without a common divisor: what divides a multiple of each by one factor divides that factor
module _ (In : ℕ → Type 0) (p : ℕ → ℕ) (positive : (a : ℕ) → 0 < p a) (least : (d : ℕ) → ((a : ℕ) → In a → d ∣ p a) → d ≡ 1) where
  pub divides_factor : (d f : ℕ) → 0 < f → ((a : ℕ) → In a → d ∣ f * p a) → d ∣ f
  divides_factor d f some each = subst (λ n. n ∣ f) (sym same) g.is.1
    where
      g : HasGcd d f
      g = gcd_of d f

      x : ℕ
      x = d / g.divisor

      d_is : g.divisor * x ≡ d
      d_is = mul-div_cancel' g.divisor g.is.0

      g_some : 0 < g.divisor
      g_some = go (cases_eq g.divisor 0)
        where
          go : (g.divisor ≡ 0) ⊎ (g.divisor ≡ 0 → ⊥) → 0 < g.divisor
          go (inl none) =
              let zero_divides : 0 ∣ f = subst (λ n. n ∣ f) none g.is.1 in
              let f_none = eq-zero_of_zero-dvd zero_divides in absurd (omega (arith, f_none, some))
          go (inr other) = omega (arith, other)

      x_divides : (a : ℕ) → In a → x ∣ p a
      x_divides a in_a = dvd_of_mul-dvd-mul_left x g_some (subst (λ n. n ∣ g.divisor * p a) (sym d_is) ((g.scaled (p a) (positive a)).2 d (dvd-mul_right d (p a)) (each a in_a)))

      same : d ≡ g.divisor
      same = sym d_is ∙ ap (λ n. g.divisor * n) (least x x_divides) ∙ omega arith

pub factor_some : (f c n : ℕ) → f * c ≡ n → 0 < n → 0 < f
factor_some f c n is some = go (cases_eq f 0)
  where
    go : (f ≡ 0) ⊎ (f ≡ 0 → ⊥) → 0 < f
    go (inl none) = absurd (let z = sym is ∙ ap (λ m. m * c) none in omega (arith, z, some))
    go (inr other) = omega (arith, other)
