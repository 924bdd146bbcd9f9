-- The form of a number in a text: digits, or digits, a point and digits (own).
use Rattle.std.specs.Prelude.{ℕ, ◌+◌, ◌*◌, ◌^◌, Bool, false, ◌&&◌, nat_le, ◌==◌, if◌then◌else◌, Option, Some, None, List, [], length, take, drop, position}
use Rattle.tdf_base.specs.Digits.{are_digits, number}
use Rattle.tdf_base.specs.Limits.{most_digits}

-- the digits on both sides of the point; none after it where there is no point
pub record Numeral : Type 0 where
  pub whole : List ℕ
  pub fraction : List ℕ

abbrev pub numeral_alone : List ℕ → Option Numeral
numeral_alone text = if are_digits text then Some (record { whole = text; fraction = [] }) else None

abbrev pub numeral_both : List ℕ → List ℕ → Option Numeral
numeral_both whole fraction =
    if are_digits whole && are_digits fraction
    then Some (record { whole = whole; fraction = fraction })
    else None

abbrev pub numeral_at : List ℕ → Option ℕ → Option Numeral
numeral_at text None = numeral_alone text
numeral_at text (Some at) = numeral_both (take at text) (drop (at + 1) text)

-- the numeral that a text is, if it is one: split at the first point
unfoldable pub numeral_of : List ℕ → Option Numeral
numeral_of text = numeral_at text (position (λ c. c == 46) text)

-- at most 18 digits on each side
abbrev pub is_short : Numeral → Bool
is_short n = nat_le (length n.whole) most_digits && nat_le (length n.fraction) most_digits

abbrev pub is_short_numeral : Option Numeral → Bool
is_short_numeral None = false
is_short_numeral (Some n) = is_short n

-- the token NUMBER: 1 to 18 digits on each side
unfoldable pub is_number : List ℕ → Bool
is_number text = is_short_numeral (numeral_of text)

-- a numeral's value is this count over 10 ^ (digits after the point)
abbrev pub scaled_count : Numeral → ℕ
scaled_count n = number n.whole * 10 ^ length n.fraction + number n.fraction
