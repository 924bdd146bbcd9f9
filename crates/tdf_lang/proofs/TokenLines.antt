-- Tokens of a text.
use Rattle.std.proofs.Common.{◌≡◌, ℕ, List, [], ◌∷◌, map, refl}
use Rattle.tdf_lang_lexer.specs.Dialect.{token_of, token_lines}
use Rattle.tdf_lang_lexer.specs.Rows.{Row}
use Rattle.tdf_lang_lexer.specs.Token.{Tok, TokenLine}
use Rattle.tdf_lang_lexer.specs.declared.dialect.Dialect.{Dialect}

-- the token of some piece of a line
abbrev pub IsToken : Dialect → Tok → Type 0
IsToken lang t = (piece : List ℕ) × (token_of lang piece ≡ t)

abbrev pub AreTokens : Dialect → List Tok → Type 0
AreTokens lang [] = Unit {0}
AreTokens lang (t ∷ ts) = IsToken lang t × AreTokens lang ts

-- token lines: each token is one of some piece
abbrev pub AreTokenLines : Dialect → List TokenLine → Type 0
AreTokenLines lang [] = Unit {0}
AreTokenLines lang (r ∷ rs) = AreTokens lang r.tokens × AreTokenLines lang rs

-- those of pieces are
pub of_pieces : (lang : Dialect) (pieces : List (List ℕ)) → AreTokens lang (map (token_of lang) pieces)
of_pieces lang [] = tt
of_pieces lang (piece ∷ pieces) = ((piece, refl), of_pieces lang pieces)

pub of_rows : (lang : Dialect) (rows : List Row) → AreTokenLines lang (token_lines lang rows)
of_rows lang [] = tt
of_rows lang (r ∷ rows) = (of_pieces lang r.pieces, of_rows lang rows)
