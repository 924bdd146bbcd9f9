-- The exact value is the one at the least count of fraction bits; where ten to the digits after the point doesn't give one,
-- no count does, since a power of five is odd.
use Rattle.std.proofs.Common.{◌≡◌, ℕ, zero, suc, ◌+◌, ◌-◌, ◌*◌, ◌/◌, ◌%◌, ◌^◌, ◌<◌, ◌≤◌, Bool, true, false, nat_eq, Option, Some, None, length, ℤ, pos, ◌*ℤ◌, ⊎_elim, refl, sym, ap, ◌∙◌, subst, arith}
use Rattle.std.proofs.Math.Nat.{pow-suc, mul_assoc}
use Rattle.std.proofs.lemmas.Bool.{cases_Bool, cases_eq, eqb-true, eqb-false}
use Rattle.std.proofs.lemmas.Int.{unsigned_abs-mul}
use Rattle.std.proofs.lemmas.Nat.{div-add-mod', mul-pow}
use Rattle.std.specs.Prelude.{unsigned_abs}
use Rattle.tdf_base.specs.Digits.{number}
use Rattle.tdf_fixed.specs.Literal.{Literal, literal_count, literal_parts, literal_exact, least_fraction, exact_at, signed_number}
use Rattle.tdf_base.specs.Number.{scaled_count}
use Rattle.tdf_fixed.specs.Spelling.{IsWholeAt, IsExact, ReadsExactly}
use Rattle.tdf_fixed.proofs.Placed.{all_parts}
use Rattle.tdf_base.proofs.Api.{power_some, of_parts, times_mod}
use Rattle.tdf_fixed.proofs.Scaling.{negative_times}

-- ---- the least count

record IsLeast (part d from frac : ℕ) : Type 0 where
  whole : part * 2 ^ frac % d ≡ 0
  least : (g : ℕ) → from ≤ g → part * 2 ^ g % d ≡ 0 → frac ≤ g

some_number : (x y : ℕ) → Some x ≡ Some y → x ≡ y
some_number x y e = cc

least_next_one : (part d from frac g : ℕ) → nat_eq (part * 2 ^ from % d) 0 ≡ false → from ≤ g → part * 2 ^ g % d ≡ 0
    → ((h : ℕ) → from + 1 ≤ h → part * 2 ^ h % d ≡ 0 → frac ≤ h) → frac ≤ g
least_next_one part d from frac g not_here low whole later = ⊎_elim
    (λ (same : from ≡ g). absurd (eqb-false (part * 2 ^ from % d) 0 not_here (subst (λ k. part * 2 ^ k % d ≡ 0) (sym same) whole)))
    (λ (other : from ≡ g → ⊥). later g (omega arith) whole)
    (cases_eq from g)

least_is : (part d n from frac : ℕ) → least_fraction part d n from ≡ Some frac → IsLeast part d from frac
unfolding least_fraction
least_is part d zero from frac e = absurd (cc)
least_is part d (suc n) from frac e = ⊎_elim
    (λ (here : nat_eq (part * 2 ^ from % d) 0 ≡ true).
    let same : from ≡ frac = some_number from frac (rw here at e) in
    subst (λ f. IsLeast part d from f) same (record { whole = eqb-true (part * 2 ^ from % d) 0 here; least = λ g low whole. low }))
    (λ (not_here : nat_eq (part * 2 ^ from % d) 0 ≡ false).
    let rest = least_is part d n (from + 1) frac (rw not_here at e) in
    record { whole = rest.whole; least = λ g low whole. least_next_one part d from frac g not_here low whole rest.least })
    (cases_Bool (nat_eq (part * 2 ^ from % d) 0))

least_not : (part d n from : ℕ) → least_fraction part d n from ≡ None → (g : ℕ) → from ≤ g → g < from + n → part * 2 ^ g % d ≡ 0 → ⊥
unfolding least_fraction
least_not part d zero from e g low high whole = omega arith
least_not part d (suc n) from e g low high whole = ⊎_elim
    (λ (here : nat_eq (part * 2 ^ from % d) 0 ≡ true). let gone : Some from ≡ None = rw here at e in absurd (cc))
    (λ (not_here : nat_eq (part * 2 ^ from % d) 0 ≡ false). ⊎_elim
    (λ (same : from ≡ g). eqb-false (part * 2 ^ from % d) 0 not_here (subst (λ k. part * 2 ^ k % d ≡ 0) (sym same) whole))
    (λ (other : from ≡ g → ⊥). least_not part d n (from + 1) (rw not_here at e) g (omega arith) (omega arith) whole)
    (cases_eq from g))
    (cases_Bool (nat_eq (part * 2 ^ from % d) 0))

-- ---- a power of five is odd

odd_power : (k : ℕ) → (t : ℕ) × (5 ^ k ≡ 2 * t + 1)
odd_power zero = (0, refl)
odd_power (suc k) =
    let before = odd_power k in
    (5 * before.0 + 2, pow-suc 5 k ∙ ap (λ p. p * 5) before.1 ∙ omega arith)

halved : (m q t : ℕ) → 2 * m ≡ q * (2 * t + 1) → m ≡ (m - t * q) * (2 * t + 1)
halved m q t e =
    let spread : q * (2 * t + 1) ≡ 2 * (t * q) + q = grind arith in
    let twice : q ≡ 2 * (m - t * q) = omega arith in
    let h = m - t * q in
    let again : q * (2 * t + 1) ≡ (2 * h) * (2 * t + 1) = ap (λ x. x * (2 * t + 1)) twice in
    let half : (2 * h) * (2 * t + 1) ≡ 2 * (h * (2 * t + 1)) = grind arith in
    omega arith

twice_power : (part g : ℕ) → 2 * (part * 2 ^ g) ≡ part * 2 ^ suc g
twice_power part g = rw (pow-suc 2 g) (let turned : 2 * (part * 2 ^ g) ≡ part * (2 ^ g * 2) = grind arith in turned)

stripped : (part d t g q : ℕ) → d ≡ 2 * t + 1 → part * 2 ^ g ≡ q * d → (r : ℕ) × (part ≡ r * d)
stripped part d t zero q odd e = (q, (let one : part * 1 ≡ part = omega arith in sym one ∙ e))
stripped part d t (suc g) q odd e =
    let twice : 2 * (part * 2 ^ g) ≡ part * 2 ^ suc g = twice_power part g in
    let whole : 2 * (part * 2 ^ g) ≡ q * (2 * t + 1) = twice ∙ e ∙ ap (λ x. q * x) odd in
    stripped part d t g (part * 2 ^ g - t * q) odd (halved (part * 2 ^ g) q t whole ∙ ap (λ x. (part * 2 ^ g - t * q) * x) (sym odd))

turned : (q d p : ℕ) → q * (d * p) ≡ (q * p) * d
turned q d p = grind arith

tens : (k : ℕ) → 10 ^ k ≡ 5 ^ k * 2 ^ k
tens k = let power : (5 * 2) ^ k ≡ 5 ^ k * 2 ^ k = mul-pow 5 2 k in power

-- where some count makes part / 10 ^ k whole, k does
pub enough : (part g k : ℕ) → part * 2 ^ g % 10 ^ k ≡ 0 → part * 2 ^ k % 10 ^ k ≡ 0
enough part g k whole =
    let d = 5 ^ k in
    let odd = odd_power k in
    let q = part * 2 ^ g / 10 ^ k in
    let sum : q * 10 ^ k + part * 2 ^ g % 10 ^ k ≡ part * 2 ^ g = div-add-mod' (part * 2 ^ g) (10 ^ k) in
    let product : part * 2 ^ g ≡ q * 10 ^ k = omega (arith, whole, sum) in
    let five : part * 2 ^ g ≡ (q * 2 ^ k) * d = product ∙ ap (λ p. q * p) (tens k) ∙ turned q d (2 ^ k) in
    let base = stripped part d odd.0 g (q * 2 ^ k) odd.1 five in
    let ten : part * 2 ^ k ≡ base.0 * 10 ^ k = ap (λ p. p * 2 ^ k) base.1 ∙ mul_assoc base.0 d (2 ^ k) ∙ ap (λ p. base.0 * p) (sym (tens k)) in
    let zero_rest : part * 2 ^ k ≡ base.0 * 10 ^ k + 0 = omega (arith, ten) in
    (of_parts (part * 2 ^ k) (10 ^ k) base.0 0 zero_rest (power_some k)).1

-- ---- whole at a count

abs_signed : (minus : Bool) (n : ℕ) → unsigned_abs (signed_number minus n) ≡ n
abs_signed false n = refl
abs_signed true zero = refl
abs_signed true (suc n) = refl

part_whole : (l : Literal) (num : ℤ) (frac : ℕ) → IsWholeAt l num frac → number l.numeral.fraction * 2 ^ frac % literal_parts l ≡ 0
part_whole l num frac whole =
    let d = literal_parts l in
    let n = scaled_count l.numeral in
    let left : unsigned_abs num * d ≡ unsigned_abs (num *ℤ pos d) = sym (unsigned_abs-mul num (pos d)) in
    let right : unsigned_abs (literal_count l *ℤ pos (2 ^ frac)) ≡ unsigned_abs (literal_count l) * 2 ^ frac = unsigned_abs-mul (literal_count l) (pos (2 ^ frac)) in
    let all : unsigned_abs num * d ≡ n * 2 ^ frac = left ∙ ap unsigned_abs whole ∙ right ∙ ap (λ x. x * 2 ^ frac) (abs_signed l.minus n) in
    let sum : n * 2 ^ frac ≡ unsigned_abs num * d + 0 = omega (arith, all) in
    sym (times_mod (number l.numeral.whole) (number l.numeral.fraction) d (2 ^ frac) (power_some (length l.numeral.fraction)))
    ∙ (of_parts (n * 2 ^ frac) d (unsigned_abs num) 0 sum (power_some (length l.numeral.fraction))).1

signed_times : (minus : Bool) (n a : ℕ) → signed_number minus n *ℤ pos a ≡ signed_number minus (n * a)
signed_times false n a = refl
signed_times true n a = negative_times n a

whole_at : (l : Literal) (frac : ℕ) → number l.numeral.fraction * 2 ^ frac % literal_parts l ≡ 0
    → IsWholeAt l (signed_number l.minus (number l.numeral.whole * 2 ^ frac + number l.numeral.fraction * 2 ^ frac / literal_parts l)) frac
whole_at l frac none =
    let d = literal_parts l in
    let m = number l.numeral.whole * 2 ^ frac + number l.numeral.fraction * 2 ^ frac / d in
    let n = scaled_count l.numeral in
    let parts : n * 2 ^ frac ≡ m * d + number l.numeral.fraction * 2 ^ frac % d =
    all_parts (number l.numeral.whole) (number l.numeral.fraction) d (2 ^ frac) (power_some (length l.numeral.fraction)) in
    let product : m * d ≡ n * 2 ^ frac = omega (arith, parts, none) in
    signed_times l.minus m d ∙ ap (signed_number l.minus) product ∙ sym (signed_times l.minus n (2 ^ frac))

exact_case : (l : Literal) (o : Option ℕ) → least_fraction (number l.numeral.fraction) (literal_parts l) (length l.numeral.fraction + 1) 0 ≡ o → IsExact l (exact_at l o)
exact_case l None e =
    let k = length l.numeral.fraction in (
      refl,
      λ num g whole. least_not (number l.numeral.fraction) (literal_parts l) (k + 1) 0 e k (omega arith) (omega arith)
          (enough (number l.numeral.fraction) g k (part_whole l num g whole)),
    )
exact_case l (Some frac) e =
    let least = least_is (number l.numeral.fraction) (literal_parts l) (length l.numeral.fraction + 1) 0 frac e in
    (whole_at l frac least.whole, λ num g whole. least.least g (omega arith) (part_whole l num g whole))

pub reads_exactly : ReadsExactly
unfolding literal_exact
reads_exactly l = exact_case l (least_fraction (number l.numeral.fraction) (literal_parts l) (length l.numeral.fraction + 1) 0) refl
