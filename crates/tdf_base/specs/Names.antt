-- Names as models write them (own).
use Rattle.std.specs.Prelude.{ℕ, Bool, false, ◌&&◌, ◌||◌, nat_eq, nat_le, List, [], ◌∷◌, length}
use Rattle.std.specs.List.{list_all}
use Rattle.tdf_base.specs.Digits.{is_digit}
use Rattle.tdf_base.specs.Limits.{longest_name}

-- a letter or `_`
abbrev pub is_letter : ℕ → Bool
is_letter byte = (nat_le 97 byte && nat_le byte 122) || (nat_le 65 byte && nat_le byte 90) || nat_eq byte 95

-- a byte of a word: a letter, `_` or a digit
abbrev pub is_part : ℕ → Bool
is_part byte = is_letter byte || is_digit byte

-- the form of a name: a letter or `_`, then bytes of a word; at most 64 characters
abbrev pub is_name : List ℕ → Bool
is_name [] = false
is_name (first ∷ more) = is_letter first && list_all is_part more && nat_le (length (first ∷ more)) longest_name
