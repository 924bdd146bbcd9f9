-- The digits after a point, from the digits of a whole number: those after its first, without the zeros at their end.
use Rattle.std.proofs.Common.{◌≡◌, ◌≢◌, ℕ, zero, suc, ◌+◌, ◌-◌, ◌*◌, ◌^◌, ◌<◌, ◌≤◌, ◌&&◌, true, List, [], ◌∷◌, ◌++◌, length, take, drop, get_or, ⊎_elim, refl, sym, ap, ◌∙◌, arith, length-append, drop-cons, add-one}
use Rattle.std.proofs.Math.Nat.{pow-le-pow_right, zero-mul}
use Rattle.std.proofs.Math.Seq.{take-length}
use Rattle.std.proofs.lemmas.Bool.{and_parts, and_from, eqb-true, cases_lt}
use Rattle.std.proofs.lemmas.Fmt.{length-decimal-le_wide, decimal_is_IsNumeral_wide}
use Rattle.std.proofs.lemmas.List.{take-append-drop, length-drop}
use Rattle.std.proofs.lemmas.List.Folds.{list_all-append}
use Rattle.std.proofs.lemmas.Nat.{same_from_place, pow-add}
use Rattle.std.specs.Fmt.{decimal}
use Rattle.std.specs.List.{list_all}
use Rattle.tdf_base.specs.Digits.{is_digit, number}
use Rattle.tdf_base.proofs.Api.{own, digit_small, number_below, number_decimal, power_some}
use Rattle.tdf_fixed.specs.Decimal.{fraction_digits}
use Rattle.tdf_fixed.specs.DecimalLaws.{EndsWell}
use Rattle.tdf_fixed.specs.Zeros.{is_zero}
use Rattle.tdf_fixed.proofs.FractionParts.{IsFraction, fraction_right, only_fraction}

-- ---- zeros at the end

pub zero_step : (text : List ℕ) (k : ℕ) → k < length text → get_or text k 0 ≡ 48 → list_all is_zero (drop (k + 1) text) ≡ true
    → list_all is_zero (drop k text) ≡ true
zero_step text k within here rest =
    rw (drop-cons text k 0 within) (and_from (is_zero (get_or text k 0)) (list_all is_zero (drop (suc k) text)) (rw here refl) (rw (← add-one k) rest))

number_zeros : (ds : List ℕ) → list_all is_zero ds ≡ true → number ds ≡ 0
number_zeros [] all = refl
number_zeros (c ∷ cs) all =
    let both = and_parts (is_zero c) (list_all is_zero cs) all in
    let none : c ≡ 48 = eqb-true c 48 both.0 in
    rw (none, number_zeros cs both.1) (omega (arith, zero-mul (10 ^ length cs)))

sum_places : (a p q n m : ℕ) → a * (p * q) + (n * q + m) ≡ (a * p + n) * q + m
sum_places a p q n m = grind arith

number_append : (a b : List ℕ) → number (a ++ b) ≡ number a * 10 ^ length b + number b
number_append [] b = omega (arith, zero-mul (10 ^ length b))
number_append (c ∷ cs) b =
    let power : 10 ^ length (cs ++ b) ≡ 10 ^ length cs * 10 ^ length b = ap (λ k. 10 ^ k) (length-append cs b) ∙ pow-add 10 (length cs) (length b) in
    rw (power, number_append cs b) (sum_places (c - 48) (10 ^ length cs) (10 ^ length b) (number cs) (number b))

-- ---- the digits after the first

longer : (places n : ℕ) → 10 ^ places < 10 ^ suc n → places ≤ n
longer places n less = ⊎_elim
    (λ (short : n < places). let power : 10 ^ suc n ≤ 10 ^ places = pow-le-pow_right (omega arith) short in absurd (omega arith))
    (λ (long : places ≤ n). long)
    (cases_lt n places)

abbrev tail_of : List ℕ → List ℕ
tail_of text = drop 1 text

record Tail (places rest : ℕ) (text : List ℕ) : Type 0 where
  long : length text ≡ places
  all : list_all is_digit text ≡ true
  value : number text ≡ rest

tail_parts : (places rest : ℕ) (text : List ℕ) → rest < 10 ^ places → list_all is_digit text ≡ true → number text ≡ 10 ^ places + rest
    → length text ≤ places + 1 → Tail places rest (tail_of text)
tail_parts places rest [] small all value few = absurd (omega (arith, power_some places, value))
tail_parts places rest (c ∷ cs) small all value few =
    let both = and_parts (is_digit c) (list_all is_digit cs) all in
    let below : number (c ∷ cs) < 10 ^ suc (length cs) = number_below (c ∷ cs) all in
    let long : places ≤ length cs = longer places (length cs) (omega (arith, below, value)) in
    let same : length cs ≡ places = omega (arith, long, few) in
    let power : 10 ^ length cs ≡ 10 ^ places = ap (λ k. 10 ^ k) same in
    let less : number cs < 10 ^ places = omega (arith, number_below cs both.1, power) in
    let parts = same_from_place (c - 48) (number cs) 1 rest (10 ^ places) less small
    (ap (λ p. (c - 48) * p + number cs) (sym power) ∙ value ∙ omega arith) in
    record { long = same; all = both.1; value = parts.1 }

decimal_tail : (places rest : ℕ) → places ≤ 15 → rest < 10 ^ places → Tail places rest (tail_of (decimal (10 ^ places + rest)))
decimal_tail places rest few small =
    let n = 10 ^ places + rest in
    let power : 10 ^ (places + 1) ≡ 10 ^ places * 10 = pow-add 10 places 1 in
    let less : n < 10 ^ (places + 1) = omega (arith, power, small) in
    let within : places + 1 ≤ 64 = omega arith in
    let top : 10 ^ (places + 1) ≤ 10 ^ 64 = pow-le-pow_right (omega arith) within in
    let wide : n < 10 ^ 64 = omega (arith, less, top) in
    let numeral = decimal_is_IsNumeral_wide n wide in
    tail_parts places rest (decimal n) small (own.from (decimal n) numeral.0.1) (number_decimal n wide)
    (length-decimal-le_wide (places + 1) n (omega arith) less wide)

-- ---- without the zeros

ends_at : (ds : List ℕ) (k : ℕ) → list_all is_digit ds ≡ true → k < length ds → get_or ds k 0 ≢ 48 → EndsWell (take (suc k) ds)
ends_at [] k all within last = absurd (omega arith)
ends_at (c ∷ cs) zero all within last =
    let low = (digit_small c (and_parts (is_digit c) (list_all is_digit cs) all).0).0 in omega (arith, low, last)
ends_at (c ∷ []) (suc k) all within last = absurd (omega arith)
ends_at (c ∷ (x ∷ xs)) (suc k) all within last =
    ends_at (x ∷ xs) k (and_parts (is_digit c) (list_all is_digit (x ∷ xs)) all).1 (omega arith) last

ends_take : (ds : List ℕ) (kept : ℕ) → list_all is_digit ds ≡ true → kept ≤ length ds → (0 < kept → get_or ds (kept - 1) 0 ≢ 48)
    → EndsWell (take kept ds)
ends_take ds zero all within last = tt
ends_take ds (suc k) all within last =
    let one : suc k - 1 ≡ k = omega arith in
    ends_at ds k all (omega arith) (λ e. last (omega arith) (ap (λ j. get_or ds j 0) one ∙ e))

cut_value : (n rest p q r : ℕ) → rest ≡ n * q → r ≡ q * p → n * r ≡ rest * p
cut_value n rest p q r e f = rw (e, f) (grind arith)

cut_fraction : (places rest : ℕ) (ds : List ℕ) (kept : ℕ) → Tail places rest ds → kept ≤ length ds
    → list_all is_zero (drop kept ds) ≡ true → (0 < kept → get_or ds (kept - 1) 0 ≢ 48) → IsFraction (take kept ds) rest (10 ^ places)
cut_fraction places rest ds kept tail within zeros last =
    let front = take kept ds in let back = drop kept ds in
    let whole : front ++ back ≡ ds = take-append-drop kept ds in
    let digits : (list_all is_digit front && list_all is_digit back) ≡ true = sym (list_all-append is_digit front back) ∙ ap (list_all is_digit) whole ∙ tail.all in
    let sum : number front * 10 ^ length back + number back ≡ rest = sym (number_append front back) ∙ ap number whole ∙ tail.value in
    let long : length front + length back ≡ places = sym (length-append front back) ∙ ap length whole ∙ tail.long in
    let power : 10 ^ places ≡ 10 ^ length back * 10 ^ length front = ap (λ k. 10 ^ k) (sym long ∙ omega arith) ∙ pow-add 10 (length back) (length front) in
    record {
      all = (and_parts (list_all is_digit front) (list_all is_digit back) digits).0;
      ends = ends_take ds kept tail.all within last;
      value = cut_value (number front) rest (10 ^ length front) (10 ^ length back) (10 ^ places) (omega (arith, sum, number_zeros back zeros)) power;
    }

-- the digits of rest/10^places, from those of 10^places + rest
pub cut_is : (places rest kept : ℕ) → places ≤ 15 → rest < 10 ^ places
    → kept ≤ length (drop 1 (decimal (10 ^ places + rest)))
    → list_all is_zero (drop kept (drop 1 (decimal (10 ^ places + rest)))) ≡ true
    → (0 < kept → get_or (drop 1 (decimal (10 ^ places + rest))) (kept - 1) 0 ≢ 48)
    → take kept (drop 1 (decimal (10 ^ places + rest))) ≡ fraction_digits places rest (10 ^ places)
cut_is places rest kept few small within zeros last =
    only_fraction (take kept (drop 1 (decimal (10 ^ places + rest)))) (fraction_digits places rest (10 ^ places)) rest (10 ^ places) (power_some places)
    (cut_fraction places rest (drop 1 (decimal (10 ^ places + rest))) kept (decimal_tail places rest few small) within zeros last)
    (fraction_right places rest (10 ^ places) (power_some places) small rest refl)

pub tail_some : (places rest : ℕ) → places ≤ 15 → rest < 10 ^ places → 0 < length (decimal (10 ^ places + rest))
tail_some places rest few small =
    let power : 10 ^ places ≤ 10 ^ 15 = pow-le-pow_right (omega arith) few in
    let wide : 10 ^ places + rest < 10 ^ 64 = omega (arith, power, small) in
    (decimal_is_IsNumeral_wide (10 ^ places + rest) wide).0.0

-- as the code cuts them: a slice from the second byte on
abbrev pub body_of : List ℕ → List ℕ
body_of text = take (length text - 1) (drop 1 text)

body_is : (text : List ℕ) → body_of text ≡ drop 1 text
body_is text = ap (λ k. take k (drop 1 text)) (sym (length-drop 1 text)) ∙ take-length (drop 1 text)

pub cut_body : (places rest second kept : ℕ) (text : List ℕ) → places ≤ 15 → second ≡ 10 ^ places → rest < second
    → text ≡ decimal (second + rest) → kept ≤ length (body_of text) → list_all is_zero (drop kept (body_of text)) ≡ true
    → (0 < kept → get_or (body_of text) (kept - 1) 0 ≢ 48) → take kept (body_of text) ≡ fraction_digits places rest second
cut_body places rest second kept text few is small spelled within zeros last =
    let number : text ≡ decimal (10 ^ places + rest) = spelled ∙ ap (λ k. decimal (k + rest)) is in
    let same : body_of text ≡ drop 1 (decimal (10 ^ places + rest)) = body_is text ∙ ap (drop 1) number in
    let less : rest < 10 ^ places = omega (arith, small, is) in
    ap (take kept) same
    ∙ cut_is places rest kept few less (rw same at within) (rw same at zeros) (λ some e. last some (ap (λ t. get_or t (kept - 1) 0) same ∙ e))
    ∙ ap (fraction_digits places rest) (sym is)
