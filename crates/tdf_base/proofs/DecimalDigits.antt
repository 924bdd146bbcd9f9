-- Whole numbers and their decimal digits, each from the other.
use Rattle.std.proofs.Common.{◌≡◌, ℕ, ◌+◌, ◌-◌, ◌*◌, ◌^◌, ◌<◌, ◌≤◌, ◌&&◌, Bool, true, false, nat_lt, nat_le, Some, None, Ok, if◌then◌else◌, List, [], ◌∷◌, ◌++◌, length, codes, refl, sym, ap, ◌∙◌, subst, arith, rules, append-nil}
use Rattle.std.proofs.Math.Nat.{pow-suc, pow-le-pow_right}
use Rattle.std.proofs.lemmas.Bool.{and_parts, and_from, lt-ltb, le-leb, leb-true}
use Rattle.std.proofs.lemmas.Bool.Decides.{nat_tests}
use Rattle.std.proofs.lemmas.Fmt.{decimal_is_IsNumeral_wide, length-decimal-le_wide}
use Rattle.std.proofs.lemmas.Nat.{same_from_place, mul-add-lt}
use Rattle.std.proofs.lemmas.Str.Parse.{IsNumeralModel, numerals_by_weight}
use Rattle.std.specs.Fmt.{decimal}
use Rattle.std.specs.List.{list_all}
use Rattle.tdf_base.specs.Digits.{is_digit, are_digits, int_of, number}
use Rattle.tdf_base.specs.Number.{is_short}
use Rattle.tdf_base.specs.Spelling.{SpellsNumeral}
use Rattle.tdf_base.specs.Spelling.IsPicoseconds.{Picosecond}
use Rattle.tdf_base.specs.Spelling.IsFemtoseconds.{Femtosecond}
use Rattle.tdf_base.specs.Time.{time_of, time_at}
use Rattle.tdf_base.specs.declared.resolution.Resolution.TheVariants.{Ps, Fs}
use Rattle.tdf_base.proofs.TimeReaders.{reads_times, reads_times_at, reads_both}

-- std's words for digits and their number
pub own : IsNumeralModel (λ ds. list_all is_digit ds ≡ true) number
own = numerals_by_weight (λ ds. list_all is_digit ds ≡ true) (search (rules, nat_tests)) number (search rules)

pub digit_small : (c : ℕ) → is_digit c ≡ true → (48 ≤ c) × (c - 48 < 10)
digit_small c e = grind (arith, nat_tests)

pub number_below : (ds : List ℕ) → list_all is_digit ds ≡ true → number ds < 10 ^ length ds
number_below [] all = omega arith
number_below (c ∷ cs) all =
    let both = and_parts (is_digit c) (list_all is_digit cs) all in
    rw (pow-suc 10 (length cs)) (mul-add-lt (c - 48) (10 ^ length cs) (number cs) 10 (digit_small c both.0).1 (number_below cs both.1))

pub same_digit : (c e : ℕ) → 48 ≤ c → 48 ≤ e → c - 48 ≡ e - 48 → c ≡ e
same_digit c e h k same = omega arith

pub same_digits : (ds es : List ℕ) → length ds ≡ length es → list_all is_digit ds ≡ true → list_all is_digit es ≡ true → number ds ≡ number es → ds ≡ es
same_digits [] [] long d e n = refl
same_digits [] (x ∷ xs) long d e n = absurd (omega arith)
same_digits (c ∷ cs) [] long d e n = absurd (omega arith)
same_digits (c ∷ cs) (x ∷ xs) long d e n =
    let first = and_parts (is_digit c) (list_all is_digit cs) d in
    let other = and_parts (is_digit x) (list_all is_digit xs) e in
    let same : length cs ≡ length xs = omega arith in
    let power : 10 ^ length cs ≡ 10 ^ length xs = ap (λ k. 10 ^ k) same in
    let less : number cs < 10 ^ length xs = subst (λ k. number cs < 10 ^ k) same (number_below cs first.1) in
    let both = same_from_place (c - 48) (number cs) (x - 48) (number xs) (10 ^ length xs) less (number_below xs other.1)
    (ap (λ p. (c - 48) * p + number cs) (sym power) ∙ n) in
    let head = same_digit c x (digit_small c first.0).0 (digit_small x other.0).0 both.0 in
    let tail = same_digits cs xs same first.1 other.1 both.1 in
    (cc)

pub number_decimal : (n : ℕ) → n < 10 ^ 64 → number (decimal n) ≡ n
number_decimal n small =
    let numeral = decimal_is_IsNumeral_wide n small in own.same (decimal n) numeral.0.1 ∙ numeral.1

pub digits_decimal : (n : ℕ) → n < 10 ^ 64 → are_digits (decimal n) ≡ true
digits_decimal n small =
    let numeral = decimal_is_IsNumeral_wide n small in
    and_from (nat_lt 0 (length (decimal n))) (list_all is_digit (decimal n))
    (lt-ltb 0 (length (decimal n)) numeral.0.0) (own.from (decimal n) numeral.0.1)

wide : (n : ℕ) → n < 10 ^ 18 → n < 10 ^ 64
wide n small = omega arith

pub few_decimal : (n : ℕ) → n < 10 ^ 18 → length (decimal n) ≤ 18
few_decimal n small = length-decimal-le_wide 18 n (omega arith) small (wide n small)

-- the digits of a whole number are read as it
pub int_decimal : (n : ℕ) → n < 10 ^ 18 → int_of (decimal n) ≡ Some n
unfolding int_of
int_decimal n small =
    rw (digits_decimal n (wide n small), le-leb (length (decimal n)) 18 (few_decimal n small))
    (ap Some (number_decimal n (wide n small)))

int_cases : (b : Bool) (text : List ℕ) (n : ℕ) → (if b then Some (number text) else None) ≡ Some n
    → (b ≡ true) × (number text ≡ n)
int_cases true text n e = (refl, cc)
int_cases false text n e = absurd (cc)

pub int_small : (text : List ℕ) (n : ℕ) → int_of text ≡ Some n → n < 10 ^ 18
unfolding int_of
int_small text n e =
    let found = int_cases (are_digits text && nat_le (length text) 18) text n e in
    let both = and_parts (are_digits text) (nat_le (length text) 18) found.0 in
    let digits = and_parts (nat_lt 0 (length text)) (list_all is_digit text) both.0 in
    let few : length text ≤ 18 = leb-true (length text) 18 both.1 in
    let power : 10 ^ length text ≤ 10 ^ 18 = pow-le-pow_right (omega arith) few in
    omega (arith, number_below text digits.1, power, found.1)

-- a count with its own unit
whole_numeral : (n : ℕ) → n < 10 ^ 18 → SpellsNumeral (decimal n) (record { whole = decimal n; fraction = [] })
whole_numeral n small =
    record { whole = digits_decimal n (wide n small); fraction = refl; is = sym (append-nil (decimal n)) }

whole_short : (n : ℕ) → n < 10 ^ 18 → is_short (record { whole = decimal n; fraction = [] }) ≡ true
whole_short n small =
    and_from (nat_le (length (decimal n)) 18) (nat_le 0 18) (le-leb (length (decimal n)) 18 (few_decimal n small)) refl

whole_scaled : (n : ℕ) → n < 10 ^ 18 → number (decimal n) * 1 + 0 ≡ n
whole_scaled n small = omega (arith, number_decimal n (wide n small))

pub time_of_count : (n : ℕ) → n < 10 ^ 18 → time_of (decimal n ++ codes "ps") ≡ Ok n
time_of_count n small = (reads_times (decimal n ++ codes "ps") n).1 (record {
  front = decimal n;
  unit = codes "ps";
  numeral = record { whole = decimal n; fraction = [] };
  scale = 1;
  is = refl;
  number = whole_numeral n small;
  short = whole_short n small;
  «of» = Picosecond;
  count = omega (arith, whole_scaled n small);
  below = small;
})

pub time_at_picoseconds : (n : ℕ) → n < 10 ^ 18 → time_at Ps (decimal n ++ codes "ps") ≡ Ok n
time_at_picoseconds n small = reads_both (decimal n ++ codes "ps") n (time_of_count n small)

pub time_at_femtoseconds : (n : ℕ) → n < 10 ^ 18 → time_at Fs (decimal n ++ codes "fs") ≡ Ok n
time_at_femtoseconds n small = (reads_times_at Fs (decimal n ++ codes "fs") n).1 (record {
  front = decimal n;
  unit = codes "fs";
  numeral = record { whole = decimal n; fraction = [] };
  scale = 1;
  is = refl;
  number = whole_numeral n small;
  short = whole_short n small;
  «of» = Femtosecond;
  count = omega (arith, whole_scaled n small);
  below = small;
})
