-- What a text begins with, by which it is told whether it may be a reserved word or a symbol (own).
-- Private functions mirror it.
use Rattle.std.specs.Prelude.{ℕ, Bool, false, ◌&&◌, ◌||◌, nat_eq, nat_le, List, [], ◌∷◌}
use Rattle.tdf_base.specs.Names.{is_letter}

-- a letter that a reserved word may begin with
abbrev pub is_initial : ℕ → Bool
is_initial byte =
    (nat_le 97 byte && nat_le byte 102) || nat_eq byte 105 || nat_eq byte 108
    || (nat_le 110 byte && nat_le byte 112) || (nat_le 114 byte && nat_le byte 119)

abbrev pub begins_with_initial : List ℕ → Bool
begins_with_initial [] = false
begins_with_initial (byte ∷ rest) = is_initial byte

abbrev pub begins_with_letter : List ℕ → Bool
begins_with_letter [] = false
begins_with_letter (byte ∷ rest) = is_letter byte
