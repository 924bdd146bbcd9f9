-- Which rows of a text are left (own).
use Rattle.std.specs.Prelude.{ℕ, List, [], ◌∷◌, map, Option, Some, None}
use Rattle.tdf_lang_lexer.specs.Rows.{Row}
use Rattle.tdf_lang_parser.specs.declared.rows.RowsLeft.{RowsLeft}

-- a row by its number, where there is one, and those after it
abbrev pub rows_with : Option ℕ → List (List ℕ) → List Row → List Row
rows_with (Some number) pieces after = (record { number = number; pieces = pieces }) ∷ after
rows_with None pieces after = []

abbrev pub rows_left : RowsLeft → List Row
rows_left r = rows_with r.number (map (λ piece. piece.now) r.pieces.items) r.after
