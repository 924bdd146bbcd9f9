-- Literals: a number with or without a `-` directly in front (own).
use Rattle.std.specs.Prelude.{ℕ, zero, suc, ◌+◌, ◌*◌, ◌/◌, ◌%◌, ◌^◌, Bool, true, false, nat_eq, if◌then◌else◌, Option, Some, None, Result, Ok, Err, List, length, drop, slice_index, ℤ, pos, ◌*ℤ◌, neg_ℤ}
use Rattle.std.specs.Option.{option_map}
use Rattle.tdf_fixed.specs.Cast.{fraction_of}
use Rattle.tdf_base.specs.Digits.{number}
use Rattle.tdf_base.specs.Number.{Numeral, numeral_of, is_short, scaled_count}
use Rattle.tdf_fixed.specs.Overflow.{overflowed}
use Rattle.tdf_fixed.specs.Quantise.{quantised}
use Rattle.tdf_fixed.specs.declared.format.Format.{Format}
use Rattle.tdf_fixed.specs.declared.literals.DecimalErr.{DecimalErr}
use Rattle.tdf_fixed.specs.declared.literals.DecimalErr.TheVariants.{NotNumber, TooManyDigits}
use Rattle.tdf_fixed.specs.declared.literals.NumErr.{NumErr}
use Rattle.tdf_fixed.specs.declared.literals.NumErr.TheVariants.{NotNumber as IsNotNumber, TooManyDigits as HasTooManyDigits, Inexact}
use Rattle.tdf_fixed.specs.declared.quant.Quant.{Quant}
use Rattle.tdf_fixed.specs.declared.raw.Raw.{Raw}

pub record Literal : Type 0 where
  pub minus : Bool
  pub numeral : Numeral

abbrev pub positive : Numeral → Literal
positive n = record { minus = false; numeral = n }

abbrev pub negative : Numeral → Literal
negative n = record { minus = true; numeral = n }

-- the literal that a text is, if it is one
unfoldable pub literal_of : List ℕ → Option Literal
literal_of text =
    if nat_eq (slice_index text 0) 45 then option_map negative (numeral_of (drop 1 text))
    else option_map positive (numeral_of text)

-- a number with a sign
abbrev pub signed_number : Bool → ℕ → ℤ
signed_number minus n = if minus then neg_ℤ (pos n) else pos n

-- a literal's value is `literal_count` over `literal_parts`
abbrev pub literal_count : Literal → ℤ
literal_count l = signed_number l.minus (scaled_count l.numeral)

abbrev pub literal_parts : Literal → ℕ
literal_parts l = 10 ^ length l.numeral.fraction

-- the fraction n/d, with a sign, in units of the last place 1 / 2 ^ to
unfoldable pub placed_fraction : Quant → Bool → ℕ → ℕ → ℕ → ℤ
placed_fraction quant minus n d to = quantised quant (signed_number minus n *ℤ pos (2 ^ to)) d

-- the literal's exact decimal, cast: in units of the format's last place
unfoldable pub literal_cast : Format → Literal → ℤ
literal_cast f l = overflowed f.over f.signed f.wl
    (placed_fraction f.quant l.minus (scaled_count l.numeral) (literal_parts l) (fraction_of f))

abbrev pub decimal_with : Format → Option Literal → Result Raw DecimalErr
decimal_with f None = Err NotNumber
decimal_with f (Some l) =
    if is_short l.numeral then Ok (record { num = literal_cast f l; frac = fraction_of f })
    else Err TooManyDigits

-- what a text is in a format
unfoldable pub decimal_of : Format → List ℕ → Result Raw DecimalErr
decimal_of f text = decimal_with f (literal_of text)

-- the least count of fraction bits, from `frac` on and among `more`, at which part/d is whole
unfoldable pub least_fraction : ℕ → ℕ → ℕ → ℕ → Option ℕ
least_fraction part d zero frac = None
least_fraction part d (suc more) frac =
    if nat_eq (part * 2 ^ frac % d) 0 then Some frac else least_fraction part d more (frac + 1)

abbrev pub exact_at : Literal → Option ℕ → Result Raw NumErr
exact_at l None = Err Inexact
exact_at l (Some frac) = Ok (record {
  num = signed_number l.minus
      (number l.numeral.whole * 2 ^ frac + number l.numeral.fraction * 2 ^ frac / literal_parts l);
  frac = frac;
})

unfoldable pub literal_exact : Literal → Result Raw NumErr
literal_exact l =
    exact_at l
    (least_fraction (number l.numeral.fraction) (literal_parts l) (length l.numeral.fraction + 1) 0)

abbrev pub exact_with : Option Literal → Result Raw NumErr
exact_with None = Err IsNotNumber
exact_with (Some l) = if is_short l.numeral then literal_exact l else Err HasTooManyDigits

-- the exact value of a text, at the least count of fraction bits
unfoldable pub exact_of : List ℕ → Result Raw NumErr
exact_of text = exact_with (literal_of text)
