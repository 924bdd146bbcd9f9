-- Rounding goes by the fraction alone: n/d and (n*k)/(d*k) are rounded alike.
use Rattle.std.proofs.Common.{◌≡◌, ℕ, zero, suc, ◌+◌, ◌-◌, ◌*◌, ◌/◌, ◌%◌, ◌^◌, ◌<◌, ◌≤◌, Bool, nat_eq, nat_lt, nat_le, ℤ, pos, negsuc, ◌*ℤ◌, neg_ℤ, ⊎_elim, refl, sym, ap, ◌∙◌, arith}
use Rattle.std.proofs.Math.Nat.{mul-lt-mul_of_pos_right, mul-le-mul_right, le_of_mul-le-mul_right, suc-mul, mul_assoc, zero-mul, mod-one, div-one}
use Rattle.std.proofs.lemmas.Bool.{cases_lt, cases_eq, lt-ltb, le-ltb, le-leb, lt-leb, eq-eqb, ne_eqb}
use Rattle.std.proofs.lemmas.Int.{ints}
use Rattle.std.proofs.lemmas.Nat.{div-add-mod', mod_below, mul-add-lt, pow_pos, pow-add}
use Rattle.tdf_fixed.specs.Quantise.{below, above_by, is_negative, is_odd, goes_up, rounded_whole, quantised, requantised}
use Rattle.tdf_fixed.specs.declared.quant.Quant.{Quant}
use Rattle.tdf_fixed.specs.declared.quant.Quant.TheVariants.{Trn, TrnZero, Rnd, RndZero, RndMinInf, RndInf, RndConv}
use Rattle.tdf_base.proofs.Api.{of_parts}

-- ---- quotients

rests : (q d k r j : ℕ) → (q * d + r) * k + j ≡ q * (d * k) + (r * k + j)
rests q d k r j = grind arith

div_scaled : (n d k j : ℕ) → j < k → 0 < d → ((n * k + j) / (d * k) ≡ n / d) × ((n * k + j) % (d * k) ≡ (n % d) * k + j)
div_scaled n d k j small some =
    of_parts (n * k + j) (d * k) (n / d) (n % d * k + j)
    (ap (λ m. m * k + j) (sym (div-add-mod' n d)) ∙ rests (n / d) d k (n % d) j)
    (let less : n % d * k + j < k * d = mul-add-lt (n % d) k j d (mod_below n d some) small in omega arith)

pub div_up : (n d k : ℕ) → 0 < k → 0 < d → ((n * k) / (d * k) ≡ n / d) × ((n * k) % (d * k) ≡ (n % d) * k)
div_up n d k some divides =
    let both = div_scaled n d k 0 some divides in
    let same : n * k + 0 ≡ n * k = omega arith in
    let rest : (n % d) * k + 0 ≡ (n % d) * k = omega arith in
    (ap (λ m. m / (d * k)) (sym same) ∙ both.0, ap (λ m. m % (d * k)) (sym same) ∙ both.1 ∙ rest)

-- ---- neighbours and distances

negative_scaled : (n k : ℕ) → 0 < k → negsuc n *ℤ pos k ≡ negsuc (n * k + (k - 1))
negative_scaled n k some = omega (arith, ints, suc-mul n k)

pub below_scaled : (n : ℤ) (d k : ℕ) → 0 < d → 0 < k → below (n *ℤ pos k) (d * k) ≡ below n d
below_scaled (pos n) d k divides some = ap pos (div_up n d k some divides).0
below_scaled (negsuc n) d k divides some =
    let last : k - 1 < k = omega arith in
    ap (λ z. below z (d * k)) (negative_scaled n k some) ∙ ap negsuc (div_scaled n d k (k - 1) last divides).0

upper_sum : (dk sk rk k : ℕ) → 0 < k → dk ≡ sk + rk + k → dk - 1 - (rk + (k - 1)) ≡ sk
upper_sum dk sk rk k some all = omega arith

upper : (d k r : ℕ) → 0 < k → r < d → d * k - 1 - (r * k + (k - 1)) ≡ (d - 1 - r) * k
upper d k r some less =
    let s = d - 1 - r in
    let sum : d ≡ s + (r + 1) = omega arith in
    let wide : (s + (r + 1)) * k ≡ s * k + r * k + k = grind arith in
    let all : d * k ≡ s * k + r * k + k = ap (λ x. x * k) sum ∙ wide in
    upper_sum (d * k) (s * k) (r * k) k some all

pub above_scaled : (n : ℤ) (d k : ℕ) → 0 < d → 0 < k → above_by (n *ℤ pos k) (d * k) ≡ above_by n d * k
above_scaled (pos n) d k divides some = (div_up n d k some divides).1
above_scaled (negsuc n) d k divides some =
    let last : k - 1 < k = omega arith in
    ap (λ z. above_by z (d * k)) (negative_scaled n k some) ∙ ap (λ r. d * k - 1 - r) (div_scaled n d k (k - 1) last divides).1
    ∙ upper d k (n % d) some (mod_below n d divides)

sign_scaled : (n : ℤ) (k : ℕ) → 0 < k → is_negative (n *ℤ pos k) ≡ is_negative n
sign_scaled (pos n) k some = refl
sign_scaled (negsuc n) k some = ap is_negative (negative_scaled n k some)

-- ---- tests

lt_scaled : (a b k : ℕ) → 0 < k → nat_lt (a * k) (b * k) ≡ nat_lt a b
lt_scaled a b k some = ⊎_elim
    (λ (h : a < b). lt-ltb (a * k) (b * k) (mul-lt-mul_of_pos_right h some) ∙ sym (lt-ltb a b h))
    (λ (h : b ≤ a). le-ltb (a * k) (b * k) (mul-le-mul_right k h) ∙ sym (le-ltb a b h))
    (cases_lt a b)

le_scaled : (a b k : ℕ) → 0 < k → nat_le (a * k) (b * k) ≡ nat_le a b
le_scaled a b k some = ⊎_elim
    (λ (h : b < a). lt-leb (a * k) (b * k) (mul-lt-mul_of_pos_right h some) ∙ sym (lt-leb a b h))
    (λ (h : a ≤ b). le-leb (a * k) (b * k) (mul-le-mul_right k h) ∙ sym (le-leb a b h))
    (cases_lt b a)

same_unscaled : (a b k : ℕ) → 0 < k → a * k ≡ b * k → a ≡ b
same_unscaled a b k some e =
    let up : a * k ≤ b * k = omega arith in
    let down : b * k ≤ a * k = omega arith in
    let less : a ≤ b = le_of_mul-le-mul_right up some in
    let more : b ≤ a = le_of_mul-le-mul_right down some in
    omega arith

eq_scaled : (a b k : ℕ) → 0 < k → nat_eq (a * k) (b * k) ≡ nat_eq a b
eq_scaled a b k some = ⊎_elim
    (λ (h : a ≡ b). eq-eqb (a * k) (b * k) (ap (λ x. x * k) h) ∙ sym (eq-eqb a b h))
    (λ (h : a ≡ b → ⊥). ne_eqb (a * k) (b * k) (λ e. h (same_unscaled a b k some e)) ∙ sym (ne_eqb a b h))
    (cases_eq a b)

pub up_scaled : (quant : Quant) (negative odd : Bool) (a b k : ℕ) → 0 < k → goes_up quant negative odd (a * k) (b * k) ≡ goes_up quant negative odd a b
up_scaled Trn negative odd a b k some = refl
up_scaled TrnZero negative odd a b k some = refl
up_scaled Rnd negative odd a b k some = le_scaled b a k some
up_scaled RndZero negative odd a b k some = rw (lt_scaled b a k some, eq_scaled a b k some) refl
up_scaled RndMinInf negative odd a b k some = lt_scaled b a k some
up_scaled RndInf negative odd a b k some = rw (lt_scaled b a k some, eq_scaled a b k some) refl
up_scaled RndConv negative odd a b k some = rw (lt_scaled b a k some, eq_scaled a b k some) refl

settled_scaled : (quant : Quant) (negative : Bool) (whole : ℤ) (rest d k : ℕ) → 0 < k → rounded_whole quant negative whole (rest * k) (d * k) ≡ rounded_whole quant negative whole rest d
unfolding rounded_whole
settled_scaled quant negative whole rest d k some =
    let twice : 2 * (rest * k) ≡ (2 * rest) * k = omega arith in
    let none : nat_eq (rest * k) 0 ≡ nat_eq rest 0 = ap (λ z. nat_eq (rest * k) z) (sym (zero-mul k)) ∙ eq_scaled rest 0 k some in
    rw (none, twice, up_scaled quant negative (is_odd whole) (2 * rest) d k some) refl

pub quantised_scaled : (quant : Quant) (n : ℤ) (d k : ℕ) → 0 < d → 0 < k → quantised quant (n *ℤ pos k) (d * k) ≡ quantised quant n d
quantised_scaled quant n d k divides some =
    ap (λ b. rounded_whole quant b (below (n *ℤ pos k) (d * k)) (above_by (n *ℤ pos k) (d * k)) (d * k)) (sign_scaled n k some)
    ∙ ap (λ z. rounded_whole quant (is_negative n) z (above_by (n *ℤ pos k) (d * k)) (d * k)) (below_scaled n d k divides some)
    ∙ ap (λ r. rounded_whole quant (is_negative n) (below n d) r (d * k)) (above_scaled n d k divides some)
    ∙ settled_scaled quant (is_negative n) (below n d) (above_by n d) d k some

-- a whole number stays
pub quantised_whole : (quant : Quant) (n : ℤ) → quantised quant n 1 ≡ n
unfolding rounded_whole
quantised_whole quant (pos n) = rw (mod-one n, div-one n) refl
quantised_whole quant (negsuc n) = rw (mod-one n, div-one n) refl

-- ---- between two counts of fraction bits

pub negative_times : (x b : ℕ) → neg_ℤ (pos x) *ℤ pos b ≡ neg_ℤ (pos (x * b))
negative_times zero b = rw (zero-mul b) refl
negative_times (suc n) b = refl

pub times_both : (n : ℤ) (a b : ℕ) → n *ℤ pos (a * b) ≡ (n *ℤ pos a) *ℤ pos b
times_both (pos n) a b = ap pos (sym (mul_assoc n a b))
times_both (negsuc n) a b = ap (λ x. neg_ℤ (pos x)) (sym (mul_assoc (suc n) a b)) ∙ sym (negative_times (suc n * a) b)

powers : (from to : ℕ) → from ≤ to → 2 ^ to ≡ 2 ^ (to - from) * 2 ^ from
powers from to le = let sum : to ≡ (to - from) + from = omega arith in ap (λ k. 2 ^ k) sum ∙ pow-add 2 (to - from) from

pub placed_up : (quant : Quant) (num : ℤ) (from to : ℕ) → from ≤ to → requantised quant num from to ≡ num *ℤ pos (2 ^ (to - from))
unfolding requantised
placed_up quant num from to le =
    let d = 2 ^ from in let k = 2 ^ (to - from) in
    let unit : 1 * d ≡ d = omega arith in
    ap (λ m. quantised quant (num *ℤ pos m) d) (powers from to le)
    ∙ ap (λ z. quantised quant z d) (times_both num k d)
    ∙ ap (λ e. quantised quant ((num *ℤ pos k) *ℤ pos d) e) (sym unit)
    ∙ quantised_scaled quant (num *ℤ pos k) 1 d (omega arith) (pow_pos from)
    ∙ quantised_whole quant (num *ℤ pos k)

pub placed_down : (quant : Quant) (num : ℤ) (from to : ℕ) → to ≤ from → requantised quant num from to ≡ quantised quant num (2 ^ (from - to))
unfolding requantised
placed_down quant num from to le =
    ap (λ e. quantised quant (num *ℤ pos (2 ^ to)) e) (powers to from le)
    ∙ quantised_scaled quant num (2 ^ (from - to)) (2 ^ to) (pow_pos (from - to)) (pow_pos to)
