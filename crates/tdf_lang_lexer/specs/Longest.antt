-- The longest match, said without a scan (own): what the pieces of a line are, and that they are the longest.
use Rattle.std.specs.Prelude.{◌≡◌, ◌↔◌, ℕ, ◌<◌, true, false, List, [], ◌∷◌, ◌++◌, length, take}
use Rattle.std.specs.List.{list_all}
use Rattle.tdf_base.specs.Digits.{is_digit}
use Rattle.tdf_base.specs.Names.{is_part}
use Rattle.tdf_lang_lexer.specs.Pieces.{is_space, is_pair, begins_with_digit, pieces_of}

-- what a piece may be: the bytes of a word; digits, a point, a digit and bytes of a word; a symbol of two bytes; or one byte
-- that is neither a space nor a byte of a word
pub data IsForm : List ℕ → Type 0 where
  word : (piece : List ℕ) → 0 < length piece → list_all is_part piece ≡ true → IsForm piece
  number : (whole fraction : List ℕ) → 0 < length whole → list_all is_digit whole ≡ true → begins_with_digit fraction ≡ true
      → list_all is_part fraction ≡ true → IsForm (whole ++ 46 ∷ fraction)
  pair : (first second : ℕ) → is_pair first second ≡ true → IsForm (first ∷ second ∷ [])
  single : (byte : ℕ) → is_space byte ≡ false → is_part byte ≡ false → IsForm (byte ∷ [])

-- a line is cut into pieces by the longest match: spaces may stand before a piece; a piece has a form, and with no more of
-- the bytes after it has it one; and what follows it is cut likewise
pub data IsCut : List ℕ → List (List ℕ) → Type 0 where
  blank : (spaces : List ℕ) → list_all is_space spaces ≡ true → IsCut spaces []
  piece : (spaces now rest : List ℕ) {pieces : List (List ℕ)} → list_all is_space spaces ≡ true → IsForm now
      → ((n : ℕ) → 0 < n → 0 < length rest → IsForm (now ++ take n rest) → ⊥) → IsCut rest pieces → IsCut (spaces ++ (now ++ rest)) (now ∷ pieces)

-- the pieces of each line are those of the longest match, and it has no others
abbrev pub PiecesAreLongest : Type 0
PiecesAreLongest = (code : List ℕ) (pieces : List (List ℕ)) → IsCut code pieces ↔ (pieces ≡ pieces_of code)
