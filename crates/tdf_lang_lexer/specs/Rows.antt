-- The rows of a text: the lines that have a piece, each with its number and its pieces (own). They are alike in every
-- version of the language.
use Rattle.std.specs.Prelude.{ℕ, ◌+◌, List, [], ◌∷◌, ◌++◌}
use Rattle.tdf_lang_lexer.specs.Pieces.{without_comment, pieces_of}
use Rattle.tdf_lang_lexer.specs.Text.{lines_of}

-- a line that has pieces: its number, from 1, and its pieces
pub record Row : Type 0 where
  pub number : ℕ
  pub pieces : List (List ℕ)

-- the row of a line, or none where it has no piece
abbrev pub row_unless_bare : ℕ → List (List ℕ) → List Row
row_unless_bare number [] = []
row_unless_bare number (first ∷ more) = (record { number = number; pieces = first ∷ more }) ∷ []

-- the rows of some lines, of which the first has this number
unfoldable pub rows_from : ℕ → List (List ℕ) → List Row
rows_from number [] = []
rows_from number (line ∷ rest) =
    row_unless_bare number (pieces_of (without_comment line)) ++ rows_from (number + 1) rest

-- the rows of a text
unfoldable pub rows_of : List ℕ → List Row
rows_of text = rows_from 1 (lines_of text)
