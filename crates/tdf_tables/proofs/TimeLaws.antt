-- Times are read exactly.
use Rattle.std.proofs.Common.{◌≡◌, ℕ, ◌+◌, ◌-◌, ◌*◌, ◌/◌, ◌^◌, ◌<◌, ◌≤◌, true, false, ◌&&◌, nat_le, List, length, refl, sym, ap, ◌∙◌, subst, arith, Some, None}
use Rattle.std.proofs.Math.Nat.{mul-lt-mul_of_pos_right}
use Rattle.std.proofs.lemmas.Nat.{pow-add, div_below}
use Rattle.std.proofs.lemmas.Bool.{and_parts}
use Rattle.std.proofs.lemmas.Bool.Decides.{nat_tests}
use Rattle.tdf_base.proofs.Api.{power_some, numeral_spelled, numeral_spells}
use Rattle.tdf_base.specs.Digits.{number}
use Rattle.tdf_base.specs.Number.{Numeral, numeral_of}
use Rattle.tdf_base.specs.Spelling.{SpellsNumeral}
use Rattle.tdf_base.specs.declared.resolution.Resolution.TheVariants.{Fs}
use Rattle.tdf_fixed.proofs.Api.{HasTimeShape, few_whole, time_only, time_shape}
use Rattle.tdf_fixed.specs.Decimal.{seconds_text_at}
use Rattle.tdf_fixed.specs.DecimalLaws.{IsMagnitude}
use Rattle.tdf_tables.proofs.CellLaws.{plain_sound, plain_complete}
use Rattle.tdf_tables.specs.Cells.{SpellsPlain}
use Rattle.tdf_tables.specs.Tables.{latest}
use Rattle.tdf_tables.specs.machine.Scan.{is_plain, may_be_time}

abbrev pub second : ℕ
second = 10 ^ 15

-- the time of a numeral: its whole seconds, and the part of a second by its places
abbrev pub time_of : Numeral → ℕ
time_of n = number n.whole * second + number n.fraction * 10 ^ (15 - length n.fraction)

value_of : (w f p q : ℕ) → p * q ≡ second → (w * p + f) * second ≡ (w * second + f * q) * p
value_of w f p q e =
    let a : (w * p + f) * second ≡ (w * second) * p + f * second = grind arith in
    let b : f * second ≡ f * (p * q) = ap (λ x. f * x) (sym e) in
    let c : f * (p * q) ≡ (f * q) * p = grind arith in
    let d : (w * second + f * q) * p ≡ (w * second) * p + (f * q) * p = grind arith in
    omega arith

pub time_sound : (text : List ℕ) (n : Numeral) → SpellsNumeral text n → is_plain n ≡ true → length n.fraction ≤ 15
    → IsMagnitude text (time_of n) second
time_sound text n spells plain few =
    let p = plain_sound n spells.whole spells.fraction plain in
    let power : 10 ^ length n.fraction * 10 ^ (15 - length n.fraction) ≡ second =
    sym (pow-add 10 (length n.fraction) (15 - length n.fraction)) ∙ ap (λ k. 10 ^ k) (let f : length n.fraction + (15 - length n.fraction) ≡ 15 = omega arith in f) in
    record {
      whole = n.whole;
      fraction = n.fraction;
      spells = spells.is;
      plain = p.whole;
      all = spells.fraction;
      ends = p.ends;
      value = value_of (number n.whole) (number n.fraction) (10 ^ length n.fraction) (10 ^ (15 - length n.fraction)) power;
    }

pub part_below : (part places : ℕ) → places ≤ 15 → part < 10 ^ places → part * 10 ^ (15 - places) < 10 ^ 15
part_below part places few small =
    let power : 10 ^ places * 10 ^ (15 - places) ≡ 10 ^ 15 =
    sym (pow-add 10 places (15 - places)) ∙ ap (λ k. 10 ^ k) (let f : places + (15 - places) ≡ 15 = omega arith in f) in
    let wide : 0 < 10 ^ (15 - places) = power_some (15 - places) in
    let less : part * 10 ^ (15 - places) < 10 ^ places * 10 ^ (15 - places) = mul-lt-mul_of_pos_right small wide in
    omega arith

pub ruleset power_lemmas = (part_below)

-- ---- the text of a time is read

shape_of : (t : ℕ) → t < latest → HasTimeShape Fs t
shape_of t small = time_shape Fs t (omega (arith, small))

div_small : (t : ℕ) → t < latest → t / second < 10 ^ 6
div_small t small = div_below t second (10 ^ 6) (omega arith) (omega arith)

pub time_plain : (t : ℕ) → t < latest → SpellsPlain (seconds_text_at Fs t)
time_plain t small = let h = shape_of t small in record {
  numeral = h.numeral;
  spells = h.spells;
  plain = record { whole = h.plain; ends = h.ends };
}

may_be : (t : ℕ) (small : t < latest) → may_be_time (shape_of t small).numeral ≡ true
may_be t small =
    let h = shape_of t small in
    let plain : is_plain h.numeral ≡ true = plain_complete h.numeral (record { whole = h.plain; ends = h.ends }) in
    let whole : length h.numeral.whole ≤ 6 = few_whole h.numeral.whole 6 (omega arith) h.plain (rw h.seconds (div_small t small)) in
    let places : length h.numeral.fraction ≤ 15 = h.places in
    let a : nat_le (length h.numeral.whole) 6 ≡ true = grind (arith, nat_tests) in
    let b : nat_le (length h.numeral.fraction) 15 ≡ true = grind (arith, nat_tests) in
    rw (plain, a, b) refl

numeral_there : (t : ℕ) (small : t < latest) → numeral_of (seconds_text_at Fs t) ≡ Some (shape_of t small).numeral
numeral_there t small = let h = shape_of t small in numeral_spelled (seconds_text_at Fs t) h.numeral h.spells

-- a text that isn't read is that of no time
pub not_read : (text : List ℕ) (n : Numeral) (t : ℕ) → t < latest → numeral_of text ≡ Some n → may_be_time n ≡ false → text ≡ seconds_text_at Fs t → ⊥
not_read text n t small is no_time e =
    let m = (shape_of t small).numeral in
    let there : Some n ≡ Some m = sym is ∙ ap numeral_of e ∙ numeral_there t small in
    let same : n ≡ m = cc in
    let yes_it_is : may_be_time n ≡ true = ap may_be_time same ∙ may_be t small in
    let apart : true ≡ false = sym yes_it_is ∙ no_time in
    cc

pub never_read : (text : List ℕ) (t : ℕ) → t < latest → numeral_of text ≡ None → text ≡ seconds_text_at Fs t → ⊥
never_read text t small is e =
    let apart : None ≡ Some (shape_of t small).numeral = sym is ∙ ap numeral_of e ∙ numeral_there t small in
    cc

-- ---- the text that is read is that of its time

pub read_is : (text : List ℕ) (n : Numeral) (t : ℕ) → numeral_of text ≡ Some n → may_be_time n ≡ true
    → t ≡ number n.whole * second + number n.fraction * 10 ^ (15 - length n.fraction) → t < latest → text ≡ seconds_text_at Fs t
read_is text n t is may value small =
    let both = and_parts (is_plain n && nat_le (length n.whole) 6) (nat_le (length n.fraction) 15) may in
    let parts = and_parts (is_plain n) (nat_le (length n.whole) 6) both.0 in
    let few : length n.fraction ≤ 15 = let f = both.1 in grind (arith, nat_tests) in
    time_only Fs text t (omega (arith, small)) (subst (λ x. IsMagnitude text x second) (sym value) (time_sound text n (numeral_spells text n is) parts.0 few))
