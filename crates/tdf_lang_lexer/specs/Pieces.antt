-- The pieces of a line by the longest match (own).
use Rattle.std.specs.Prelude.{ℕ, Bool, false, ◌||◌, ◌&&◌, nat_eq, List, [], ◌∷◌, ◌++◌, length, cond}
use Rattle.std.specs.List.{list_all, before_first}
use Rattle.tdf_base.specs.Digits.{is_digit}
use Rattle.tdf_base.specs.Names.{is_part}
use Rattle.tdf_lang_lexer.specs.Text.{unless_empty}

abbrev pub is_space : ℕ → Bool
is_space byte = nat_eq byte 32 || nat_eq byte 9

abbrev pub is_comment : ℕ → Bool
is_comment byte = nat_eq byte 35

-- a line without its comment
abbrev pub without_comment : List ℕ → List ℕ
without_comment line = before_first is_comment line

-- whether two bytes are one symbol: <= >= == != << >>
abbrev pub is_pair : ℕ → ℕ → Bool
is_pair first second =
    (nat_eq second 61 && (nat_eq first 60 || nat_eq first 62 || nat_eq first 61 || nat_eq first 33))
    || (nat_eq first 60 && nat_eq second 60) || (nat_eq first 62 && nat_eq second 62)

abbrev pub begins_with_digit : List ℕ → Bool
begins_with_digit [] = false
begins_with_digit (byte ∷ rest) = is_digit byte

-- whether the piece `now` takes the next byte, which `rest` follows: a word or number takes each byte of a
-- word, digits take a point before a digit, and a symbol takes the second byte of a symbol of two
abbrev pub joins : List ℕ → ℕ → List ℕ → Bool
joins [] byte rest = false
joins (first ∷ more) byte rest =
    cond (is_part first) (is_part byte || (nat_eq byte 46 && list_all is_digit (first ∷ more) && begins_with_digit rest))
    (nat_eq (length more) 0 && is_pair first byte)

-- what a byte begins: a space nothing, each other byte a piece
abbrev pub first_piece : ℕ → List ℕ
first_piece byte = cond (is_space byte) [] (byte ∷ [])

-- the pieces of what is left of a line, where `now` is the piece so far
unfoldable pub pieces_from : List ℕ → List ℕ → List (List ℕ)
pieces_from now [] = unless_empty now
pieces_from now (byte ∷ rest) = cond (joins now byte rest) (pieces_from (now ++ byte ∷ []) rest)
    (unless_empty now ++ pieces_from (first_piece byte) rest)

-- the pieces of a line without a comment
unfoldable pub pieces_of : List ℕ → List (List ℕ)
pieces_of code = pieces_from [] code
