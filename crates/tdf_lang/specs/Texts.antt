-- The tokens of one line in a dialect (own).
use Rattle.std.specs.Prelude.{ℕ, List, map}
use Rattle.tdf_lang_lexer.specs.Dialect.{token_of}
use Rattle.tdf_lang_lexer.specs.Pieces.{without_comment, pieces_of}
use Rattle.tdf_lang_lexer.specs.Token.{Tok}
use Rattle.tdf_lang_lexer.specs.declared.dialect.Dialect.{Dialect}

-- the tokens of a line, which may have a comment
abbrev pub tokens_of : Dialect → List ℕ → List Tok
tokens_of lang line = map (token_of lang) (pieces_of (without_comment line))
