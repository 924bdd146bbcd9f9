-- Decimal digits, the numbers that they spell, and whole numbers as models write them (own).
use Rattle.std.specs.Prelude.{ℕ, ◌+◌, ◌-◌, ◌*◌, ◌^◌, Bool, ◌&&◌, nat_le, nat_lt, List, [], ◌∷◌, length, if◌then◌else◌, Option, Some, None}
use Rattle.std.specs.List.{list_all}
use Rattle.tdf_base.specs.Limits.{most_digits}

-- one of the bytes `0` to `9`
abbrev pub is_digit : ℕ → Bool
is_digit c = nat_le 48 c && nat_le c 57

-- one digit or more, and nothing else
abbrev pub are_digits : List ℕ → Bool
are_digits text = nat_lt 0 (length text) && list_all is_digit text

-- the number that digits spell, by their places
abbrev pub number : List ℕ → ℕ
number [] = 0
number (c ∷ cs) = (c - 48) * 10 ^ length cs + number cs

-- the value of an INT, which is 1 to 18 digits; needless zeros may stand in front
unfoldable pub int_of : List ℕ → Option ℕ
int_of text =
    if are_digits text && nat_le (length text) most_digits then Some (number text) else None
