-- A number read digit by digit.
use Rattle.std.proofs.Common.{◌≡◌, ℕ, suc, ◌+◌, ◌-◌, ◌*◌, ◌^◌, ◌<◌, ◌≤◌, true, List, sym, ◌∙◌, length, get_or, drop, add-one, arith, drop-cons}
use Rattle.std.proofs.Math.Nat.{pow-suc, pow-le-pow_right}
use Rattle.std.proofs.lemmas.Bool.{false≢true, true_from_ne_false}
use Rattle.std.proofs.lemmas.Bool.Decides.{nat_tests}
use Rattle.std.proofs.lemmas.List.Folds.{list_all_at}
use Rattle.std.specs.List.{list_all}
use Rattle.tdf_base.specs.Digits.{is_digit, number}

digit_first : (value digit p rest : ℕ) → (10 * value + digit) * p + rest ≡ value * (p * 10) + (digit * p + rest)
digit_first value digit p rest = grind arith

-- one digit more in front
pub place_step : (text : List ℕ) (i value : ℕ) → i < length text →
    (10 * value + (get_or text i 0 - 48)) * 10 ^ length (drop (i + 1) text) + number (drop (i + 1) text)
    ≡ value * 10 ^ length (drop i text) + number (drop i text)
place_step text i value within =
    rw (add-one, drop-cons text i 0)
    (let rest = length (drop (suc i) text) in
    rw (pow-suc 10 rest) (digit_first value (get_or text i 0 - 48) (10 ^ rest) (number (drop (suc i) text))))

-- a digit more stays below the next power
pub place_below : (value digit i : ℕ) → value < 10 ^ i → digit < 10 → 10 * value + digit < 10 ^ (i + 1)
place_below value digit i below small =
    rw (add-one, pow-suc 10 i) (omega arith)

place_top : {i : ℕ} → i ≤ 17 → 10 ^ i ≤ 10 ^ 17
place_top within = pow-le-pow_right (omega arith) within

pub place_fits : (i value : ℕ) → i < 18 → value < 10 ^ i → value < 10 ^ 17
place_fits i value within below =
    let few : i ≤ 17 = omega arith in omega (arith, place_top few)

-- each byte of a text of digits is a digit
pub digit_at : (text : List ℕ) (i : ℕ) → i < length text → list_all is_digit text ≡ true → is_digit (get_or text i 0) ≡ true
digit_at text i within all =
    true_from_ne_false (is_digit (get_or text i 0)) (λ e. false≢true (sym (list_all_at is_digit text i 0 within e) ∙ all))

digit_bounds : (c : ℕ) → is_digit c ≡ true → (48 ≤ c) × (c - 48 < 10)
digit_bounds c e = grind (arith, nat_tests)

pub digit_in : (text : List ℕ) (i : ℕ) → i < length text → list_all is_digit text ≡ true → (48 ≤ get_or text i 0) × (get_or text i 0 - 48 < 10)
digit_in text i within all = digit_bounds (get_or text i 0) (digit_at text i within all)

pub ruleset place_lemmas = (place_step, place_below, place_fits)
