-- What the definitions of the language see of a token (own).
use Rattle.std.specs.Prelude.{ℕ, List}
use Rattle.tdf_lang_lexer.specs.declared.key.Key.{Key}
use Rattle.tdf_lang_lexer.specs.declared.key.Symbol.{Symbol}
use Rattle.tdf_lang_lexer.specs.declared.token.Token.{Token}
use Rattle.tdf_lang_lexer.specs.declared.token.Token.TheVariants.{Name, Number, Time, Wrong}
use Rattle.tdf_lang_lexer.specs.declared.token.Token.TheVariants as variant

-- a token: names and numbers are the bytes that are written, a time is its count of ps
pub data Tok : Type 0 where
  TName : List ℕ → Tok
  TKey : Key → Tok
  TNumber : List ℕ → Tok
  TTime : ℕ → Tok
  TSymbol : Symbol → Tok
  TWrong : Tok

abbrev pub tok : Token → Tok
tok (Name text) = TName text.now
tok (variant.Key key) = TKey key
tok (Number text) = TNumber text.now
tok (Time count) = TTime count
tok (variant.Symbol symbol) = TSymbol symbol
tok Wrong = TWrong

-- a line of tokens: its number, from 1, and its tokens
pub record TokenLine : Type 0 where
  pub number : ℕ
  pub tokens : List Tok
