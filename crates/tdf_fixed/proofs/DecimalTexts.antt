-- The text of a number is the one decimal of its value.
use Rattle.std.proofs.Common.{◌≡◌, ℕ, suc, ◌+◌, ◌*◌, ◌/◌, ◌%◌, ◌^◌, ◌<◌, ◌≤◌, ◌↔◌, List, [], ◌∷◌, ◌++◌, length, pos, negsuc, ⊎_elim, refl, sym, ap, ◌∙◌, subst, arith}
use Rattle.std.proofs.Math.Nat.{eq-zero-or-pos, zero-mul, div-le_self, mul-lt-mul_of_pos_right}
use Rattle.std.proofs.lemmas.Nat.{same_from_place, div-add-mod', mod_below, mul-pow, pow_pos}
use Rattle.std.specs.Fmt.{decimal}
use Rattle.tdf_fixed.specs.Decimal.{fraction_digits, fraction_text, magnitude_text, places_of, value_text, seconds_text, seconds_text_at}
use Rattle.tdf_base.specs.Spelling.{after_point}
use Rattle.tdf_fixed.specs.DecimalLaws.{IsMagnitude, IsValueText, IsTimeText}
use Rattle.tdf_base.specs.Digits.{number}
use Rattle.tdf_fixed.proofs.FractionParts.{IsFraction, fraction_right, only_fraction}
use Rattle.tdf_fixed.proofs.Fractions.{fraction_none, fraction_some, fraction_stop}
use Rattle.tdf_base.proofs.Api.{number_below, number_decimal, power_some}
use Rattle.tdf_fixed.proofs.WholeParts.{same_whole, whole_decimal}

-- whole and fraction of n/d, by their values
split_value : (w f n d p : ℕ) → 0 < d → 0 < p → f < p → (w * p + f) * d ≡ n * p → (w ≡ n / d) × (f * d ≡ (n % d) * p)
split_value w f n d p some wide less is =
    same_from_place w (f * d) (n / d) ((n % d) * p) (p * d)
    (mul-lt-mul_of_pos_right less some)
    (let both : n % d * p < d * p = mul-lt-mul_of_pos_right (mod_below n d some) wide in
    let turned : d * p ≡ p * d = grind arith in omega arith)
    (let left : w * (p * d) + f * d ≡ (w * p + f) * d = grind arith in
    let parts : n * p ≡ ((n / d) * d + n % d) * p = ap (λ x. x * p) (sym (div-add-mod' n d)) in
    let spread : ((n / d) * d + n % d) * p ≡ (n / d) * (p * d) + (n % d) * p = grind arith in
    left ∙ is ∙ parts ∙ spread)

pub join_value : (w f n d p : ℕ) → w ≡ n / d → f * d ≡ (n % d) * p → (w * p + f) * d ≡ n * p
join_value w f n d p whole rest =
    let spread : (w * p + f) * d ≡ (w * d) * p + f * d = grind arith in
    let first : (w * d) * p ≡ (n / d * d) * p = ap (λ x. (x * d) * p) whole in
    let parts : ((n / d) * d + n % d) * p ≡ n * p = ap (λ x. x * p) (div-add-mod' n d) in
    let back : ((n / d) * d + n % d) * p ≡ (n / d * d) * p + (n % d) * p = grind arith in
    omega arith

-- the point stands in front of digits alone
after_some : (digits : List ℕ) → 0 < length digits → after_point digits ≡ 46 ∷ digits
after_some [] some = absurd (omega arith)
after_some (c ∷ cs) some = refl

fraction_length : (digits : List ℕ) (rest d : ℕ) → 0 < d → 0 < rest → IsFraction digits rest d → 0 < length digits
fraction_length [] rest d some more h = absurd (omega (arith, h.value, zero-mul d))
fraction_length (c ∷ cs) rest d some more h = omega arith

pub fraction_is_behind : (room rest d : ℕ) → 0 < d → IsFraction (fraction_digits room rest d) rest d → fraction_text room rest d ≡ after_point (fraction_digits room rest d)
fraction_is_behind room rest d some h = ⊎_elim
    (λ (none : rest ≡ 0). fraction_none room rest d none ∙ ap after_point (sym (fraction_stop room rest d none)))
    (λ (more : 0 < rest). fraction_some room rest d more ∙ sym (after_some (fraction_digits room rest d) (fraction_length (fraction_digits room rest d) rest d some more h)))
    (eq-zero-or-pos rest)

-- ---- without a sign

magnitude_is : (room n d q : ℕ) → 0 < d → n / d < 10 ^ 64 → q * d ≡ (n % d) * 10 ^ room → IsMagnitude (magnitude_text room n d) n d
unfolding magnitude_text
magnitude_is room n d q some small enough =
    let right = fraction_right room (n % d) d some (mod_below n d some) q enough in
    record {
      whole = decimal (n / d);
      fraction = fraction_digits room (n % d) d;
      spells = ap (λ t. decimal (n / d) ++ t) (fraction_is_behind room (n % d) d some right);
      plain = whole_decimal (n / d) small;
      all = right.all;
      ends = right.ends;
      value = join_value (number (decimal (n / d))) (number (fraction_digits room (n % d) d)) n d (10 ^ length (fraction_digits room (n % d) d))
          (number_decimal (n / d) small) right.value;
    }

magnitude_only : (text : List ℕ) (room n d q : ℕ) → 0 < d → n / d < 10 ^ 64 → q * d ≡ (n % d) * 10 ^ room → IsMagnitude text n d → text ≡ magnitude_text room n d
unfolding magnitude_text
magnitude_only text room n d q some small enough h =
    let wide : 0 < 10 ^ length h.fraction = omega (arith, number_below h.fraction h.all) in
    let parts = split_value (number h.whole) (number h.fraction) n d (10 ^ length h.fraction) some wide (number_below h.fraction h.all) h.value in
    let right = fraction_right room (n % d) d some (mod_below n d some) q enough in
    let whole = same_whole h.whole (decimal (n / d)) h.plain (whole_decimal (n / d) small) (parts.0 ∙ sym (number_decimal (n / d) small)) in
    let fraction = only_fraction h.fraction (fraction_digits room (n % d) d) (n % d) d some (record { all = h.all; ends = h.ends; value = parts.1 }) right in
    h.spells ∙ ap (λ w. w ++ after_point h.fraction) whole ∙ ap (λ f. decimal (n / d) ++ after_point f) fraction
    ∙ ap (λ t. decimal (n / d) ++ t) (sym (fraction_is_behind room (n % d) d some right))

-- ---- times

pub small_seconds : (time k : ℕ) → time < 2 ^ 128 → time / 10 ^ k < 10 ^ 64
small_seconds time k small = omega (arith, div-le_self time (10 ^ k))

time_by : (k : ℕ) (text : List ℕ) (time : ℕ) → 0 < 10 ^ k → time < 2 ^ 128
    → IsMagnitude text time (10 ^ k) ↔ (text ≡ magnitude_text k time (10 ^ k))
time_by k text time some small = (
  (λ h. magnitude_only text k time (10 ^ k) (time % 10 ^ k) some (small_seconds time k small) refl h),
  (λ e. subst (λ t. IsMagnitude t time (10 ^ k)) (sym e) (magnitude_is k time (10 ^ k) (time % 10 ^ k) some (small_seconds time k small) refl)),
)

pub time_text : IsTimeText
unfolding seconds_text seconds_text_at
time_text resolution text time small = (time_by (places_of resolution) text time (power_some (places_of resolution)) small, refl)

-- ---- values

-- frac digits are enough: 10 ^ frac is 5 ^ frac times 2 ^ frac
pub room_of : (rest frac : ℕ) → (rest * 5 ^ frac) * 2 ^ frac ≡ rest * 10 ^ frac
room_of rest frac =
    let power : (5 * 2) ^ frac ≡ 5 ^ frac * 2 ^ frac = mul-pow 5 2 frac in
    let turned : (rest * 5 ^ frac) * 2 ^ frac ≡ rest * (5 ^ frac * 2 ^ frac) = grind arith in
    turned ∙ ap (λ p. rest * p) (sym power)

small_value : (n frac : ℕ) → n ≤ 2 ^ 128 → n / 2 ^ frac < 10 ^ 64
small_value n frac small = omega (arith, div-le_self n (2 ^ frac))

binary_text : (text : List ℕ) (n frac : ℕ) → n ≤ 2 ^ 128 → IsMagnitude text n (2 ^ frac) ↔ (text ≡ magnitude_text frac n (2 ^ frac))
binary_text text n frac small =
    let q = (n % 2 ^ frac) * 5 ^ frac in (
      (λ h. magnitude_only text frac n (2 ^ frac) q (pow_pos frac) (small_value n frac small) (room_of (n % 2 ^ frac) frac) h),
      (λ e. subst (λ t. IsMagnitude t n (2 ^ frac)) (sym e) (magnitude_is frac n (2 ^ frac) q (pow_pos frac) (small_value n frac small) (room_of (n % 2 ^ frac) frac))),
    )

pub value_text_is : IsValueText
unfolding value_text
value_text_is text (pos n) frac small = binary_text text n frac (omega arith)
value_text_is text (negsuc n) frac small = (
  (λ h. h.1 ∙ ap (λ t. 45 ∷ t) ((binary_text h.0 (suc n) frac (omega arith)).0 h.2)),
  (λ e. (magnitude_text frac (suc n) (2 ^ frac), e, (binary_text (magnitude_text frac (suc n) (2 ^ frac)) (suc n) frac (omega arith)).1 refl)),
)
