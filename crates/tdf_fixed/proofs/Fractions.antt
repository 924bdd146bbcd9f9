-- The equations of `fraction_digits`, for a loop that writes one digit a turn.
use Rattle.std.proofs.Common.{◌≡◌, ℕ, zero, suc, ◌+◌, ◌-◌, ◌*◌, ◌/◌, ◌%◌, ◌^◌, ◌<◌, ◌≤◌, true, false, nat_eq, List, [], ◌∷◌, ◌++◌, refl, sym, ap, ◌∙◌, append_assoc, append-nil, arith, ℤ, pos, negsuc, ◌≤ℤ◌, ◌<ℤ◌}
use Rattle.std.proofs.Math.Nat.{mul-lt-mul_of_pos_right, mul_assoc, pow-le-pow_right, suc-mul, zero-mul}
use Rattle.std.proofs.lemmas.Bool.{ne_eqb}
use Rattle.std.proofs.lemmas.Nat.{mul-pow, pow_pos}
use Rattle.std.proofs.lemmas.List.{take-append-le}
use Rattle.std.proofs.lemmas.Fmt.{decimal_digit}
use Rattle.std.proofs.lemmas.Int.{ints}
use Rattle.std.specs.Fmt.{decimal}
use Rattle.std.specs.Prelude.{unsigned_abs}
use Rattle.tdf_fixed.proofs.Scaling.{div_up}
use Rattle.tdf_fixed.specs.Decimal.{fraction_digits, fraction_text, magnitude_text, places_of, seconds_text, seconds_text_at, value_text}
use Rattle.tdf_base.specs.declared.resolution.Resolution.{Resolution}
use Rattle.tdf_base.specs.declared.resolution.Resolution.TheVariants.{Ps}

pub one_digit : (n : ℕ) → n < 10 → decimal n ≡ (48 + n) ∷ []
one_digit n small = decimal_digit n small

-- there is no room
pub fraction_end : (n rest d : ℕ) → n ≡ 0 → fraction_digits n rest d ≡ []
unfolding fraction_digits
fraction_end n rest d e = rw e refl

-- nothing is left
pub fraction_stop : (n rest d : ℕ) → rest ≡ 0 → fraction_digits n rest d ≡ []
unfolding fraction_digits
fraction_stop zero rest d e = refl
fraction_stop (suc n) rest d e = rw e refl

-- one digit more
pub fraction_step : (n k rest d : ℕ) → k < n → 0 < rest → fraction_digits (n - k) rest d ≡ (48 + 10 * rest / d) ∷ fraction_digits (n - (k + 1)) (10 * rest % d) d
unfolding fraction_digits
fraction_step n k rest d within some =
    let one : n - k ≡ suc (n - (k + 1)) = omega arith in
    let more : nat_eq rest 0 ≡ false = ne_eqb rest 0 (λ e. absurd (omega arith)) in
    rw one (rw more refl)

pub fraction_none : (room rest d : ℕ) → rest ≡ 0 → fraction_text room rest d ≡ []
unfolding fraction_text
fraction_none room rest d e = rw e refl

pub fraction_some : (room rest d : ℕ) → 0 < rest → fraction_text room rest d ≡ 46 ∷ fraction_digits room rest d
unfolding fraction_text
fraction_some room rest d some =
    let more : nat_eq rest 0 ≡ false = ne_eqb rest 0 (λ e. absurd (omega arith)) in
    rw more refl

digit_more : (room rest d : ℕ) → 0 < rest → fraction_digits (suc room) rest d ≡ (48 + 10 * rest / d) ∷ fraction_digits room (10 * rest % d) d
unfolding fraction_digits
digit_more room rest d some = let more : nat_eq rest 0 ≡ false = ne_eqb rest 0 (λ none. absurd (omega (arith, some, none))) in rw more refl

-- a fraction whose parts are both taken so many times has the same digits
pub digits_scaled : (room rest d k : ℕ) → 0 < d → 0 < k → fraction_digits room (rest * k) (d * k) ≡ fraction_digits room rest d
digits_scaled zero rest d k divides some = fraction_end 0 (rest * k) (d * k) refl ∙ sym (fraction_end 0 rest d refl)
digits_scaled (suc room) zero d k divides some = fraction_stop (suc room) (0 * k) (d * k) (zero-mul k) ∙ sym (fraction_stop (suc room) 0 d refl)
digits_scaled (suc room) (suc rest) d k divides some =
    let more : 0 < suc rest * k = omega (arith, suc-mul rest k, some) in
    let moved : 10 * (suc rest * k) ≡ 10 * suc rest * k = sym (mul_assoc 10 (suc rest) k) in
    let both = div_up (10 * suc rest) d k some divides in
    digit_more room (suc rest * k) (d * k) more
    ∙ ap (λ n. (48 + n / (d * k)) ∷ fraction_digits room (n % (d * k)) (d * k)) moved
    ∙ ap (λ q. (48 + q) ∷ fraction_digits room (10 * suc rest * k % (d * k)) (d * k)) both.0
    ∙ ap (λ r. (48 + 10 * suc rest / d) ∷ fraction_digits room r (d * k)) both.1
    ∙ ap (λ (ds : List ℕ). (48 + 10 * suc rest / d) ∷ ds) (digits_scaled room (10 * suc rest % d) d k divides some)
    ∙ sym (digit_more room (suc rest) d (omega arith))

five_some : (frac : ℕ) → 0 < 5 ^ frac
five_some frac =
    let none : 0 ≤ frac = omega arith in
    let least : 5 ^ 0 ≤ 5 ^ frac = pow-le-pow_right (omega arith) none in omega (arith, least)

ten_parts : (frac : ℕ) → 10 ^ frac ≡ 2 ^ frac * 5 ^ frac
ten_parts frac = mul-pow 2 5 frac

-- the digits of a binary fraction are those of a decimal one
pub digits_of_tens : (frac rest : ℕ) → fraction_digits frac (rest * 5 ^ frac) (10 ^ frac) ≡ fraction_digits frac rest (2 ^ frac)
digits_of_tens frac rest = rw (ten_parts frac) (digits_scaled frac rest (2 ^ frac) (5 ^ frac) (pow_pos frac) (five_some frac))

pub few_fives : (frac : ℕ) → frac ≤ 15 → 5 ^ frac ≤ 30517578125
few_fives frac few = let most : 5 ^ frac ≤ 5 ^ 15 = pow-le-pow_right (omega arith) few in omega (arith, most)

pub few_tens : (frac : ℕ) → frac ≤ 15 → 10 ^ frac ≤ 10 ^ 15
few_tens frac few = pow-le-pow_right (omega arith) few

pub below_tens : (frac rest : ℕ) → rest < 2 ^ frac → rest * 5 ^ frac < 10 ^ frac
below_tens frac rest below = rw (ten_parts frac) (mul-lt-mul_of_pos_right below (five_some frac))

pub ruleset fraction_lemmas = (fraction_end, fraction_stop, fraction_step, fraction_none, fraction_some, take-append-le, append_assoc, append-nil)

pub magnitude_parts : (room n d : ℕ) → magnitude_text room n d ≡ decimal (n / d) ++ fraction_text room (n % d) d
unfolding magnitude_text
magnitude_parts room n d = refl

pub whole_text : (n frac : ℕ) → frac ≡ 0 → magnitude_text frac n (2 ^ frac) ≡ decimal n
unfolding magnitude_text
whole_text n frac none =
    let one : n / 1 ≡ n = omega arith in
    let no_rest : fraction_text 0 (n % 1) 1 ≡ [] = fraction_none 0 (n % 1) 1 (omega arith) in
    rw (none, one, no_rest) (append-nil (decimal n))

pub seconds_parts : (resolution : Resolution) (time : ℕ) → seconds_text_at resolution time
    ≡ decimal (time / 10 ^ places_of resolution) ++ fraction_text (places_of resolution) (time % 10 ^ places_of resolution) (10 ^ places_of resolution)
unfolding seconds_text_at magnitude_text
seconds_parts resolution time = refl

pub seconds_in_picoseconds : (time : ℕ) → seconds_text_at Ps time ≡ seconds_text time
unfolding seconds_text_at seconds_text
seconds_in_picoseconds time = refl

pub value_up : (num : ℤ) (frac : ℕ) → pos 0 ≤ℤ num → value_text num frac ≡ magnitude_text frac (unsigned_abs num) (2 ^ frac)
unfolding value_text
value_up (pos n) frac up = refl
value_up (negsuc n) frac up = absurd (omega (arith, ints))

pub value_down : (num : ℤ) (frac : ℕ) → num <ℤ pos 0 → value_text num frac ≡ 45 ∷ magnitude_text frac (unsigned_abs num) (2 ^ frac)
unfolding value_text
value_down (pos n) frac down = absurd (omega (arith, ints))
value_down (negsuc n) frac down = refl

pub ruleset text_lemmas = (magnitude_parts, seconds_parts, value_up, value_down, append_assoc)
