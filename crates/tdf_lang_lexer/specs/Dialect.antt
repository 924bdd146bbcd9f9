-- The token that a piece is, in a version of the language and at a resolution of time (own).
use Rattle.std.specs.Prelude.{ℕ, Bool, ◌&&◌, nat_eq, List, map, Result, Ok, Err, option_map, unwrap_or, codes, if◌then◌else◌}
use Rattle.std.specs.Cmp.Lexicographic.{pointwise}
use Rattle.tdf_base.specs.Names.{is_name}
use Rattle.tdf_base.specs.Number.{is_number}
use Rattle.tdf_base.specs.Time.{time_of, time_at}
use Rattle.tdf_base.specs.Version.{has_resolution}
use Rattle.tdf_base.specs.declared.times.TimeErr.{TimeErr}
use Rattle.tdf_lang_lexer.specs.Rows.{Row}
use Rattle.tdf_lang_lexer.specs.Token.{Tok, TName, TKey, TNumber, TTime, TSymbol, TWrong, TokenLine}
use Rattle.tdf_lang_lexer.specs.Words.{key_of, symbol_of}
use Rattle.tdf_lang_lexer.specs.declared.dialect.Dialect.{Dialect}

-- the word that a line of version 3 may begin with to set the resolution: there it is no name
abbrev pub is_resolution : Dialect → List ℕ → Bool
is_resolution d piece = has_resolution d.version && pointwise nat_eq piece (codes "resolution")

-- the time that a piece says: picoseconds by five units, and from version 3 on counts of the resolution by six
abbrev pub time_in : Dialect → List ℕ → Result ℕ TimeErr
time_in d piece = if has_resolution d.version then time_at d.resolution piece else time_of piece

abbrev pub time_or_wrong : Result ℕ TimeErr → Tok
time_or_wrong (Ok count) = TTime count
time_or_wrong (Err reason) = TWrong

-- the token that a piece is: a reserved word, a symbol, a name, a number, a time with a whole count below 10^18, or none
unfoldable pub token_of : Dialect → List ℕ → Tok
token_of d piece =
    if is_resolution d piece then TWrong
    else unwrap_or (option_map TKey (key_of piece))
    (unwrap_or (option_map TSymbol (symbol_of piece))
    (if is_name piece then TName piece
    else if is_number piece then TNumber piece
    else time_or_wrong (time_in d piece)))

-- the line of tokens that a row is
abbrev pub token_line : Dialect → Row → TokenLine
token_line d row = record { number = row.number; tokens = map (token_of d) row.pieces }

-- the lines of tokens that some rows are
abbrev pub token_lines : Dialect → List Row → List TokenLine
token_lines d rows = map (token_line d) rows
