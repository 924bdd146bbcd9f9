-- The text of a time: what it is, that it is the only one and of no other time, and its form.
use Rattle.std.proofs.Common.{◌≡◌, ℕ, zero, suc, ◌+◌, ◌*◌, ◌/◌, ◌%◌, ◌^◌, ◌<◌, ◌≤◌, true, false, nat_eq, List, ◌++◌, length, ⊎_elim, Some, refl, sym, ap, ◌∙◌, subst, arith}
use Rattle.std.proofs.Math.Nat.{le_of_mul-le-mul_right}
use Rattle.std.proofs.lemmas.Bool.{cases_Bool}
use Rattle.std.proofs.lemmas.Nat.{mod_below}
use Rattle.std.specs.Fmt.{decimal}
use Rattle.tdf_base.proofs.Api.{digits_from, number_decimal, numeral_spelled, power_some, some_same}
use Rattle.tdf_base.specs.Digits.{number}
use Rattle.tdf_base.specs.Number.{Numeral, numeral_of}
use Rattle.tdf_base.specs.Spelling.{SpellsNumeral}
use Rattle.tdf_base.specs.declared.resolution.Resolution.{Resolution}
use Rattle.tdf_base.specs.declared.resolution.Resolution.TheVariants.{Ps, Fs}
use Rattle.tdf_fixed.proofs.DecimalTexts.{fraction_is_behind, small_seconds, time_text}
use Rattle.tdf_fixed.proofs.FractionParts.{fraction_right}
use Rattle.tdf_fixed.proofs.WholeParts.{whole_decimal}
use Rattle.tdf_fixed.specs.Decimal.{fraction_digits, magnitude_text, places_of, seconds_text_at}
use Rattle.tdf_fixed.specs.DecimalLaws.{EndsWell, IsMagnitude, IsWholePart}

pub time_is : (resolution : Resolution) (time : ℕ) → time < 2 ^ 128 → IsMagnitude (seconds_text_at resolution time) time (10 ^ places_of resolution)
time_is resolution time small = (time_text resolution (seconds_text_at resolution time) time small).0.1 refl

pub time_only : (resolution : Resolution) (text : List ℕ) (time : ℕ) → time < 2 ^ 128
    → IsMagnitude text time (10 ^ places_of resolution) → text ≡ seconds_text_at resolution time
time_only resolution text time small h = (time_text resolution text time small).0.0 h

-- ---- the form

pub fraction_room : (room rest d : ℕ) → length (fraction_digits room rest d) ≤ room
unfolding fraction_digits
fraction_room zero rest d = omega arith
fraction_room (suc room) rest d = ⊎_elim
    (λ (none : nat_eq rest 0 ≡ true). rw none (omega arith))
    (λ (some : nat_eq rest 0 ≡ false). let more = fraction_room room (10 * rest % d) d in rw some (omega arith))
    (cases_Bool (nat_eq rest 0))

-- no needless zeros, and no more places than the resolution has
pub record HasTimeShape (resolution : Resolution) (time : ℕ) : Type 0 where
  pub numeral : Numeral
  pub spells : SpellsNumeral (seconds_text_at resolution time) numeral
  pub plain : IsWholePart numeral.whole
  pub ends : EndsWell numeral.fraction
  pub places : length numeral.fraction ≤ places_of resolution
  pub seconds : number numeral.whole ≡ time / 10 ^ places_of resolution

pub time_shape : (resolution : Resolution) (time : ℕ) → time < 2 ^ 128 → HasTimeShape resolution time
unfolding seconds_text_at magnitude_text
time_shape resolution time small =
    let room = places_of resolution in
    let d = 10 ^ room in
    let some : 0 < d = power_some room in
    let right = fraction_right room (time % d) d some (mod_below time d some) (time % d) refl in
    let few = small_seconds time room small in
    let whole = whole_decimal (time / d) few in
    let n : Numeral = record { whole = decimal (time / d); fraction = fraction_digits room (time % d) d } in
    record {
      numeral = n;
      spells = record {
        whole = digits_from (decimal (time / d)) whole.some whole.all;
        fraction = right.all;
        is = ap (λ x. decimal (time / d) ++ x) (fraction_is_behind room (time % d) d some right);
      };
      plain = whole;
      ends = right.ends;
      places = fraction_room room (time % d) d;
      seconds = number_decimal (time / d) few;
    }

-- ---- one time

magnitude_numeral : (text : List ℕ) (n d : ℕ) → (h : IsMagnitude text n d) → numeral_of text ≡ Some (record { whole = h.whole; fraction = h.fraction })
magnitude_numeral text n d h = numeral_spelled text (record { whole = h.whole; fraction = h.fraction })
    (record { whole = digits_from h.whole h.plain.some h.plain.all; fraction = h.all; is = h.spells })

times_same : (t u p x : ℕ) → 0 < p → x ≡ t * p → x ≡ u * p → t ≡ u
times_same t u p x some a b =
    let same : t * p ≡ u * p = sym a ∙ b in
    let low : t ≤ u = le_of_mul-le-mul_right (omega (arith, same)) some in
    let high : u ≤ t = le_of_mul-le-mul_right (omega (arith, same)) some in
    omega arith

value_one : (text : List ℕ) (t u d : ℕ) → IsMagnitude text t d → IsMagnitude text u d → t ≡ u
value_one text t u d g h =
    let one : Numeral = record { whole = g.whole; fraction = g.fraction } in
    let other : Numeral = record { whole = h.whole; fraction = h.fraction } in
    let same : one ≡ other = some_same one other (sym (magnitude_numeral text t d g) ∙ magnitude_numeral text u d h) in
    let whole : g.whole ≡ h.whole = ap (λ (k : Numeral). k.whole) same in
    let fraction : g.fraction ≡ h.fraction = ap (λ (k : Numeral). k.fraction) same in
    let value : (number g.whole * 10 ^ length g.fraction + number g.fraction) * d ≡ u * 10 ^ length g.fraction = rw (whole, fraction) h.value in
    times_same t u (10 ^ length g.fraction) ((number g.whole * 10 ^ length g.fraction + number g.fraction) * d) (power_some (length g.fraction)) g.value value

-- times with one text are one
pub time_one : (resolution : Resolution) (t u : ℕ) → t < 2 ^ 128 → u < 2 ^ 128 → seconds_text_at resolution t ≡ seconds_text_at resolution u → t ≡ u
time_one resolution t u a b e =
    let d = 10 ^ places_of resolution in
    value_one (seconds_text_at resolution t) t u d (time_is resolution t a) (subst (λ x. IsMagnitude x u d) (sym e) (time_is resolution u b))

-- ---- picoseconds in femtoseconds

thousandfold : (x t p : ℕ) → x * 10 ^ 12 ≡ t * p → x * 10 ^ 15 ≡ 1000 * t * p
thousandfold x t p e = let turned : 1000 * t * p ≡ 1000 * (t * p) = grind arith in omega arith

-- a time has one text at both resolutions
pub picoseconds_in_femtoseconds : (time : ℕ) → 1000 * time < 2 ^ 128 → seconds_text_at Fs (1000 * time) ≡ seconds_text_at Ps time
picoseconds_in_femtoseconds time small =
    let h = time_is Ps time (omega arith) in
    sym (time_only Fs (seconds_text_at Ps time) (1000 * time) small (record {
      whole = h.whole;
      fraction = h.fraction;
      spells = h.spells;
      plain = h.plain;
      all = h.all;
      ends = h.ends;
      value = thousandfold (number h.whole * 10 ^ length h.fraction + number h.fraction) time (10 ^ length h.fraction) h.value;
    }))
