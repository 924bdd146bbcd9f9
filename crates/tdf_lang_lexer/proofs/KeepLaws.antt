-- What the tokens of pieces keep: names and numbers have their forms, and times are below their end.
use Rattle.std.proofs.Common.{◌≡◌, ℕ, ◌<◌, Bool, true, false, List, [], ◌∷◌, ◌++◌, Option, Some, None, Result, Ok, Err, refl, map, option_map, unwrap_or, if◌then◌else◌}
use Rattle.tdf_base.specs.Limits.{time_end}
use Rattle.tdf_base.specs.Names.{is_name}
use Rattle.tdf_base.specs.Number.{is_number}
use Rattle.tdf_base.specs.Time.{time_of, time_at}
use Rattle.tdf_base.specs.Version.{has_resolution}
use Rattle.tdf_base.specs.declared.times.TimeErr.{TimeErr}
use Rattle.tdf_base.proofs.Api.{time_small, time_at_small}
use Rattle.tdf_lang_lexer.specs.Dialect.{token_of, is_resolution, time_in, time_or_wrong}
use Rattle.tdf_lang_lexer.specs.Token.{Tok, TName, TKey, TNumber, TTime, TSymbol, TWrong}
use Rattle.tdf_lang_lexer.specs.Words.{key_of, symbol_of}
use Rattle.tdf_lang_lexer.specs.declared.dialect.Dialect.{Dialect}
use Rattle.tdf_lang_lexer.specs.declared.key.Key.{Key}
use Rattle.tdf_lang_lexer.specs.declared.key.Symbol.{Symbol}

abbrev pub KeepsToken : Tok → Type 0
KeepsToken (TName name) = is_name name ≡ true
KeepsToken (TNumber text) = is_number text ≡ true
KeepsToken (TTime count) = count < time_end
KeepsToken _ = Unit {0}

abbrev pub KeepTokens : List Tok → Type 0
KeepTokens [] = Unit {0}
KeepTokens (t ∷ ts) = KeepsToken t × KeepTokens ts

pub keep_split : (a b : List Tok) → KeepTokens (a ++ b) → KeepTokens a × KeepTokens b
keep_split [] b h = (tt, h)
keep_split (t ∷ a) b h = let r = keep_split a b h.1 in ((h.0, r.0), r.1)

time_keeps : (r : Result ℕ TimeErr) → ((t : ℕ) → r ≡ Ok t → t < time_end) → KeepsToken (time_or_wrong r)
time_keeps (Ok t) h = h t refl
time_keeps (Err e) h = tt

keeps_at : (piece : List ℕ) (w : Bool) (k : Option Key) (m : Option Symbol) (a b : Bool) (r : Result ℕ TimeErr) → is_name piece ≡ a
    → is_number piece ≡ b → ((t : ℕ) → r ≡ Ok t → t < time_end)
    → KeepsToken (if w then TWrong else unwrap_or (option_map TKey k) (unwrap_or (option_map TSymbol m)
    (if a then TName piece else if b then TNumber piece else time_or_wrong r)))
keeps_at piece true k m a b r e f h = tt
keeps_at piece false (Some k) m a b r e f h = tt
keeps_at piece false None (Some m) a b r e f h = tt
keeps_at piece false None None true b r e f h = e
keeps_at piece false None None false true r e f h = f
keeps_at piece false None None false false r e f h = time_keeps r h

time_in_small : (d : Dialect) (piece : List ℕ) (b : Bool) → has_resolution d.version ≡ b → (t : ℕ)
    → (if b then time_at d.resolution piece else time_of piece) ≡ Ok t → t < time_end
time_in_small d piece true e t h = time_at_small d.resolution piece t h
time_in_small d piece false e t h = time_small piece t h

pub token_keeps : (d : Dialect) (piece : List ℕ) → KeepsToken (token_of d piece)
unfolding token_of
token_keeps d piece =
    keeps_at piece (is_resolution d piece) (key_of piece) (symbol_of piece) (is_name piece) (is_number piece) (time_in d piece) refl refl
    (λ (t : ℕ) (e : time_in d piece ≡ Ok t). time_in_small d piece (has_resolution d.version) refl t e)

pub tokens_keep : (d : Dialect) (pieces : List (List ℕ)) → KeepTokens (map (token_of d) pieces)
tokens_keep d [] = tt
tokens_keep d (piece ∷ pieces) = (token_keeps d piece, tokens_keep d pieces)
