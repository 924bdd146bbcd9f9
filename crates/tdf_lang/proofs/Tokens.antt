-- The tokens of canonical texts: what is written of each is a piece, and that piece is the token again.
use Rattle.std.proofs.Common.{◌≡◌, ℕ, ◌^◌, ◌<◌, ◌≤◌, Bool, true, false, cond, ◌&&◌, ◌||◌, not, nat_eq, nat_le, List, [], ◌∷◌, ◌++◌, Option, Some, None, Result, Ok, Err, length, refl, sym, ap, subst, ◌∙◌, arith, eqb, length-append}
use Rattle.std.proofs.lemmas.Bool.{and_parts, and_from, and_left, and_right, false≢true}
use Rattle.std.proofs.lemmas.Bool.Decides.{nat_tests}
use Rattle.std.proofs.lemmas.List.{append-nil}
use Rattle.std.specs.Prelude.{codes}
use Rattle.std.specs.Cmp.Lexicographic.{pointwise}
use Rattle.std.specs.Fmt.{decimal}
use Rattle.std.specs.List.{list_all}
use Rattle.std.specs.Option.{option_map, unwrap_or}
use Rattle.std.proofs.lemmas.List.Folds.{list_all-append}
use Rattle.tdf_base.specs.Version.{has_resolution}
use Rattle.tdf_base.specs.declared.version.Version.{Version}
use Rattle.tdf_base.specs.declared.version.Version.TheVariants.{V3}
use Rattle.tdf_base.proofs.Api.{time_small, time_at_small, time_of_count, time_at_picoseconds, time_at_femtoseconds}
use Rattle.tdf_base.specs.Digits.{is_digit}
use Rattle.tdf_base.specs.Names.{is_letter, is_part, is_name}
use Rattle.tdf_base.specs.Number.{is_number}
use Rattle.tdf_base.specs.Time.{time_of, time_at}
use Rattle.tdf_base.specs.declared.resolution.Resolution.{Resolution}
use Rattle.tdf_base.specs.declared.resolution.Resolution.TheVariants.{Ps, Fs}
use Rattle.tdf_base.specs.declared.times.TimeErr.{TimeErr}
use Rattle.tdf_lang_lexer.proofs.Api.{key_of-spelling, symbol_of-sign, words_are_read, symbols_are_read}
use Rattle.tdf_lang_lexer.specs.Dialect.{is_resolution, time_in, token_of, time_or_wrong}
use Rattle.tdf_lang_lexer.specs.Text.{is_allowed_byte}
use Rattle.tdf_lang_lexer.specs.Token.{Tok, TName, TKey, TNumber, TTime, TSymbol, TWrong}
use Rattle.tdf_lang_lexer.specs.Words.{spelling, sign, key_of, symbol_of}
use Rattle.tdf_lang_lexer.specs.declared.dialect.Dialect.{Dialect}
use Rattle.tdf_lang_lexer.specs.declared.key.Key.{Key}
use Rattle.tdf_lang_lexer.specs.declared.key.Key.TheVariants as key
use Rattle.tdf_lang_lexer.specs.declared.key.Symbol.{Symbol}
use Rattle.tdf_lang_lexer.specs.declared.key.Symbol.TheVariants as symbol
use Rattle.tdf_lang_printer.specs.Lines.{unit_text, time_text}
use Rattle.tdf_lang.proofs.Numerals.{Written, whole_number, with_fraction, written_number, number_written, trimmed_written, decimal_side}
use Rattle.tdf_lang_exprs.specs.Numbers.{trimmed}
use Rattle.tdf_lang.proofs.Scan.{IsPiece, word_piece, digits_piece, number_piece, byte_piece, pair_piece}

-- what is written of a token
abbrev pub spelled : Dialect → Tok → List ℕ
spelled lang (TName name) = name
spelled lang (TKey word) = spelling word
spelled lang (TNumber text) = text
spelled lang (TTime count) = time_text lang.resolution count
spelled lang (TSymbol mark) = sign mark
spelled lang TWrong = []

-- a printable byte that isn't `#`
abbrev pub is_plain : ℕ → Bool
is_plain b = (nat_le 32 b && nat_le b 126) && not (eqb b 35)

pub plain_code : (b : ℕ) → is_plain b ≡ true → not (eqb b 35) ≡ true
plain_code b h = (and_parts (nat_le 32 b && nat_le b 126) (not (eqb b 35)) h).1

pub plain_line : (b : ℕ) → is_plain b ≡ true → eqb b 10 ≡ false
plain_line b h = grind (arith, nat_tests)

pub plain_allowed : (b : ℕ) → is_plain b ≡ true → is_allowed_byte b ≡ true
plain_allowed b h = grind (arith, nat_tests)

pub record Writable (lang : Dialect) (t : Tok) : Type 0 where
  pub reads : token_of lang (spelled lang t) ≡ t
  pub piece : IsPiece (spelled lang t)
  pub plain : list_all is_plain (spelled lang t) ≡ true
  pub some : 0 < length (spelled lang t)

-- words: the first byte and the others
abbrev pub first_part : List ℕ → Bool
first_part [] = false
first_part (c ∷ cs) = is_part c

abbrev pub first_letter : List ℕ → Bool
first_letter [] = false
first_letter (c ∷ cs) = is_letter c

word_at : (w : List ℕ) → first_part w ≡ true → list_all is_part w ≡ true → IsPiece w
word_at [] e h = absurd (false≢true e)
word_at (c ∷ w) e h = word_piece c w e (and_parts (is_part c) (list_all is_part w) h).1

part_plain : (b : ℕ) → is_part b ≡ true → is_plain b ≡ true
part_plain b h = grind (arith, nat_tests)

parts_plain : (w : List ℕ) → list_all is_part w ≡ true → list_all is_plain w ≡ true
parts_plain [] h = refl
parts_plain (c ∷ w) h =
    let e = and_parts (is_part c) (list_all is_part w) h in and_from (is_plain c) (list_all is_plain w) (part_plain c e.0) (parts_plain w e.1)

first_some : (w : List ℕ) → first_part w ≡ true → 0 < length w
first_some [] e = absurd (false≢true e)
first_some (c ∷ w) e = omega arith

-- reserved words begin with a letter, and have bytes of words alone
pub key_letter : (word : Key) → first_letter (spelling word) ≡ true
unfolding spelling
key_letter key.Language = refl
key_letter key.Type = refl
key_letter key.Tdf = refl
key_letter key.De = refl
key_letter key.Composite = refl
key_letter key.Top = refl
key_letter key.End = refl
key_letter key.SetAttributes = refl
key_letter key.Initialize = refl
key_letter key.Processing = refl
key_letter key.ChangeAttributes = refl
key_letter key.Reinitialize = refl
key_letter key.Process = refl
key_letter key.In = refl
key_letter key.Out = refl
key_letter key.DeIn = refl
key_letter key.DeOut = refl
key_letter key.Const = refl
key_letter key.Var = refl
key_letter key.Array = refl
key_letter key.Rate = refl
key_letter key.Event = refl
key_letter key.Signal = refl
key_letter key.DeSignal = refl
key_letter key.Instance = refl
key_letter key.Bind = refl
key_letter key.Trace = refl
key_letter key.Timestep = refl
key_letter key.Delay = refl
key_letter key.Initial = refl
key_letter key.DoesAttributeChanges = refl
key_letter key.AcceptAttributeChanges = refl
key_letter key.RejectAttributeChanges = refl
key_letter key.Sensitive = refl
key_letter key.DontInitialize = refl
key_letter key.If = refl
key_letter key.Else = refl
key_letter key.For = refl
key_letter key.Notify = refl
key_letter key.After = refl
key_letter key.And = refl
key_letter key.Or = refl
key_letter key.Not = refl
key_letter key.Select = refl
key_letter key.Fixed = refl
key_letter key.Ufixed = refl
key_letter key.Trn = refl
key_letter key.TrnZero = refl
key_letter key.Rnd = refl
key_letter key.RndZero = refl
key_letter key.RndMinInf = refl
key_letter key.RndInf = refl
key_letter key.RndConv = refl
key_letter key.Wrap = refl
key_letter key.Sat = refl
key_letter key.SatZero = refl
key_letter key.SatSym = refl

key_parts : (word : Key) → list_all is_part (spelling word) ≡ true
unfolding spelling
key_parts key.Language = refl
key_parts key.Type = refl
key_parts key.Tdf = refl
key_parts key.De = refl
key_parts key.Composite = refl
key_parts key.Top = refl
key_parts key.End = refl
key_parts key.SetAttributes = refl
key_parts key.Initialize = refl
key_parts key.Processing = refl
key_parts key.ChangeAttributes = refl
key_parts key.Reinitialize = refl
key_parts key.Process = refl
key_parts key.In = refl
key_parts key.Out = refl
key_parts key.DeIn = refl
key_parts key.DeOut = refl
key_parts key.Const = refl
key_parts key.Var = refl
key_parts key.Array = refl
key_parts key.Rate = refl
key_parts key.Event = refl
key_parts key.Signal = refl
key_parts key.DeSignal = refl
key_parts key.Instance = refl
key_parts key.Bind = refl
key_parts key.Trace = refl
key_parts key.Timestep = refl
key_parts key.Delay = refl
key_parts key.Initial = refl
key_parts key.DoesAttributeChanges = refl
key_parts key.AcceptAttributeChanges = refl
key_parts key.RejectAttributeChanges = refl
key_parts key.Sensitive = refl
key_parts key.DontInitialize = refl
key_parts key.If = refl
key_parts key.Else = refl
key_parts key.For = refl
key_parts key.Notify = refl
key_parts key.After = refl
key_parts key.And = refl
key_parts key.Or = refl
key_parts key.Not = refl
key_parts key.Select = refl
key_parts key.Fixed = refl
key_parts key.Ufixed = refl
key_parts key.Trn = refl
key_parts key.TrnZero = refl
key_parts key.Rnd = refl
key_parts key.RndZero = refl
key_parts key.RndMinInf = refl
key_parts key.RndInf = refl
key_parts key.RndConv = refl
key_parts key.Wrap = refl
key_parts key.Sat = refl
key_parts key.SatZero = refl
key_parts key.SatSym = refl

-- the word of the resolution line
abbrev pub is_unit : List ℕ → Bool
is_unit text = pointwise nat_eq text (codes "resolution")

key_unit : (word : Key) → is_unit (spelling word) ≡ false
unfolding spelling
key_unit key.Language = refl
key_unit key.Type = refl
key_unit key.Tdf = refl
key_unit key.De = refl
key_unit key.Composite = refl
key_unit key.Top = refl
key_unit key.End = refl
key_unit key.SetAttributes = refl
key_unit key.Initialize = refl
key_unit key.Processing = refl
key_unit key.ChangeAttributes = refl
key_unit key.Reinitialize = refl
key_unit key.Process = refl
key_unit key.In = refl
key_unit key.Out = refl
key_unit key.DeIn = refl
key_unit key.DeOut = refl
key_unit key.Const = refl
key_unit key.Var = refl
key_unit key.Array = refl
key_unit key.Rate = refl
key_unit key.Event = refl
key_unit key.Signal = refl
key_unit key.DeSignal = refl
key_unit key.Instance = refl
key_unit key.Bind = refl
key_unit key.Trace = refl
key_unit key.Timestep = refl
key_unit key.Delay = refl
key_unit key.Initial = refl
key_unit key.DoesAttributeChanges = refl
key_unit key.AcceptAttributeChanges = refl
key_unit key.RejectAttributeChanges = refl
key_unit key.Sensitive = refl
key_unit key.DontInitialize = refl
key_unit key.If = refl
key_unit key.Else = refl
key_unit key.For = refl
key_unit key.Notify = refl
key_unit key.After = refl
key_unit key.And = refl
key_unit key.Or = refl
key_unit key.Not = refl
key_unit key.Select = refl
key_unit key.Fixed = refl
key_unit key.Ufixed = refl
key_unit key.Trn = refl
key_unit key.TrnZero = refl
key_unit key.Rnd = refl
key_unit key.RndZero = refl
key_unit key.RndMinInf = refl
key_unit key.RndInf = refl
key_unit key.RndConv = refl
key_unit key.Wrap = refl
key_unit key.Sat = refl
key_unit key.SatZero = refl
key_unit key.SatSym = refl

sign_unit : (mark : Symbol) → is_unit (sign mark) ≡ false
unfolding sign
sign_unit symbol.Open = refl
sign_unit symbol.Close = refl
sign_unit symbol.OpenSquare = refl
sign_unit symbol.CloseSquare = refl
sign_unit symbol.Comma = refl
sign_unit symbol.Point = refl
sign_unit symbol.Plus = refl
sign_unit symbol.Minus = refl
sign_unit symbol.Times = refl
sign_unit symbol.ShiftLeft = refl
sign_unit symbol.ShiftRight = refl
sign_unit symbol.Less = refl
sign_unit symbol.AtMost = refl
sign_unit symbol.Equal = refl
sign_unit symbol.NotEqual = refl
sign_unit symbol.Greater = refl
sign_unit symbol.AtLeast = refl
sign_unit symbol.Becomes = refl

no_unit : (lang : Dialect) (text : List ℕ) → is_unit text ≡ false → is_resolution lang text ≡ false
no_unit lang text h = and_right (has_resolution lang.version) (is_unit text) h

-- symbols begin with no byte of a word
sign_first : (mark : Symbol) → first_part (sign mark) ≡ false
unfolding sign
sign_first symbol.Open = refl
sign_first symbol.Close = refl
sign_first symbol.OpenSquare = refl
sign_first symbol.CloseSquare = refl
sign_first symbol.Comma = refl
sign_first symbol.Point = refl
sign_first symbol.Plus = refl
sign_first symbol.Minus = refl
sign_first symbol.Times = refl
sign_first symbol.ShiftLeft = refl
sign_first symbol.ShiftRight = refl
sign_first symbol.Less = refl
sign_first symbol.AtMost = refl
sign_first symbol.Equal = refl
sign_first symbol.NotEqual = refl
sign_first symbol.Greater = refl
sign_first symbol.AtLeast = refl
sign_first symbol.Becomes = refl

sign_plain : (mark : Symbol) → list_all is_plain (sign mark) ≡ true
unfolding sign
sign_plain symbol.Open = refl
sign_plain symbol.Close = refl
sign_plain symbol.OpenSquare = refl
sign_plain symbol.CloseSquare = refl
sign_plain symbol.Comma = refl
sign_plain symbol.Point = refl
sign_plain symbol.Plus = refl
sign_plain symbol.Minus = refl
sign_plain symbol.Times = refl
sign_plain symbol.ShiftLeft = refl
sign_plain symbol.ShiftRight = refl
sign_plain symbol.Less = refl
sign_plain symbol.AtMost = refl
sign_plain symbol.Equal = refl
sign_plain symbol.NotEqual = refl
sign_plain symbol.Greater = refl
sign_plain symbol.AtLeast = refl
sign_plain symbol.Becomes = refl

sign_some : (mark : Symbol) → 0 < length (sign mark)
unfolding sign
sign_some symbol.Open = omega arith
sign_some symbol.Close = omega arith
sign_some symbol.OpenSquare = omega arith
sign_some symbol.CloseSquare = omega arith
sign_some symbol.Comma = omega arith
sign_some symbol.Point = omega arith
sign_some symbol.Plus = omega arith
sign_some symbol.Minus = omega arith
sign_some symbol.Times = omega arith
sign_some symbol.ShiftLeft = omega arith
sign_some symbol.ShiftRight = omega arith
sign_some symbol.Less = omega arith
sign_some symbol.AtMost = omega arith
sign_some symbol.Equal = omega arith
sign_some symbol.NotEqual = omega arith
sign_some symbol.Greater = omega arith
sign_some symbol.AtLeast = omega arith
sign_some symbol.Becomes = omega arith

sign_piece : (mark : Symbol) → IsPiece (sign mark)
unfolding sign
sign_piece symbol.Open = byte_piece 40 refl
sign_piece symbol.Close = byte_piece 41 refl
sign_piece symbol.OpenSquare = byte_piece 91 refl
sign_piece symbol.CloseSquare = byte_piece 93 refl
sign_piece symbol.Comma = byte_piece 44 refl
sign_piece symbol.Point = byte_piece 46 refl
sign_piece symbol.Plus = byte_piece 43 refl
sign_piece symbol.Minus = byte_piece 45 refl
sign_piece symbol.Times = byte_piece 42 refl
sign_piece symbol.ShiftLeft = pair_piece 60 60 refl (λ rest. refl)
sign_piece symbol.ShiftRight = pair_piece 62 62 refl (λ rest. refl)
sign_piece symbol.Less = byte_piece 60 refl
sign_piece symbol.AtMost = pair_piece 60 61 refl (λ rest. refl)
sign_piece symbol.Equal = pair_piece 61 61 refl (λ rest. refl)
sign_piece symbol.NotEqual = pair_piece 33 61 refl (λ rest. refl)
sign_piece symbol.Greater = byte_piece 62 refl
sign_piece symbol.AtLeast = pair_piece 62 61 refl (λ rest. refl)
sign_piece symbol.Becomes = byte_piece 61 refl

pub letter_part : (b : ℕ) → is_letter b ≡ true → is_part b ≡ true
letter_part b h = rw h refl

pub letter_first : (w : List ℕ) → first_letter w ≡ true → first_part w ≡ true
letter_first [] h = absurd (false≢true h)
letter_first (c ∷ w) h = letter_part c h

-- what begins with no letter is no reserved word, and what begins with a byte of a word is no symbol
no_key_at : (text : List ℕ) (o : Option Key) → key_of text ≡ o → first_letter text ≡ false → key_of text ≡ None
no_key_at text None is h = is
no_key_at text (Some word) is h =
    let e : text ≡ spelling word = (words_are_read word text).0 is in
    absurd (false≢true (sym h ∙ ap first_letter e ∙ key_letter word))

no_key : (text : List ℕ) → first_letter text ≡ false → key_of text ≡ None
no_key text h = no_key_at text (key_of text) refl h

no_symbol_at : (text : List ℕ) (o : Option Symbol) → symbol_of text ≡ o → first_part text ≡ true → symbol_of text ≡ None
no_symbol_at text None is h = is
no_symbol_at text (Some mark) is h =
    let e : text ≡ sign mark = (symbols_are_read mark text).0 is in
    absurd (false≢true (sym (sign_first mark) ∙ sym (ap first_part e) ∙ h))

no_symbol : (text : List ℕ) → first_part text ≡ true → symbol_of text ≡ None
no_symbol text h = no_symbol_at text (symbol_of text) refl h

part_letter : (w : List ℕ) → first_part w ≡ false → first_letter w ≡ false
part_letter [] h = refl
part_letter (c ∷ w) h = go (is_letter c) refl
  where
    go : (b : Bool) → is_letter c ≡ b → is_letter c ≡ false
    go true e = absurd (false≢true (sym h ∙ letter_part c e))
    go false e = e

key_reads : (lang : Dialect) (word : Key) → token_of lang (spelling word) ≡ TKey word
unfolding token_of
key_reads lang word = rw (no_unit lang (spelling word) (key_unit word), key_of-spelling word) refl

sign_reads : (lang : Dialect) (mark : Symbol) → token_of lang (sign mark) ≡ TSymbol mark
unfolding token_of
sign_reads lang mark =
    rw (no_unit lang (sign mark) (sign_unit mark), no_key (sign mark) (part_letter (sign mark) (sign_first mark)), symbol_of-sign mark) refl

-- reserved words and symbols
pub key_writable : (lang : Dialect) (word : Key) → Writable lang (TKey word)
key_writable lang word = record {
  reads = key_reads lang word;
  piece = word_at (spelling word) (letter_first (spelling word) (key_letter word)) (key_parts word);
  plain = parts_plain (spelling word) (key_parts word);
  some = first_some (spelling word) (letter_first (spelling word) (key_letter word));
}

pub symbol_writable : (lang : Dialect) (mark : Symbol) → Writable lang (TSymbol mark)
symbol_writable lang mark = record {
  reads = sign_reads lang mark;
  piece = sign_piece mark;
  plain = sign_plain mark;
  some = sign_some mark;
}

-- a name, a number and a time of some piece are that piece
abbrev token_by : List ℕ → Bool → Option Key → Option Symbol → Bool → Bool → Result ℕ TimeErr → Tok
token_by piece u k m a b r =
    cond u TWrong (unwrap_or (option_map TKey k) (unwrap_or (option_map TSymbol m) (cond a (TName piece) (cond b (TNumber piece) (time_or_wrong r)))))

name_at : (piece n : List ℕ) (u : Bool) (k : Option Key) (m : Option Symbol) (a b : Bool) (r : Result ℕ TimeErr) → is_name piece ≡ a
    → token_by piece u k m a b r ≡ TName n → (piece ≡ n) × (is_name piece ≡ true)
name_at piece n true k m a b r e h = absurd (cc)
name_at piece n false (Some w) m a b r e h = absurd (cc)
name_at piece n false None (Some m) a b r e h = absurd (cc)
name_at piece n false None None true b r e h = (cc, e)
name_at piece n false None None false true r e h = absurd (cc)
name_at piece n false None None false false (Ok c) e h = absurd (cc)
name_at piece n false None None false false (Err x) e h = absurd (cc)

name_piece : (lang : Dialect) (piece n : List ℕ) → token_of lang piece ≡ TName n → (piece ≡ n) × (is_name piece ≡ true)
unfolding token_of
name_piece lang piece n h =
    name_at piece n (is_resolution lang piece) (key_of piece) (symbol_of piece) (is_name piece) (is_number piece) (time_in lang piece) refl h

number_at : (piece t : List ℕ) (u : Bool) (k : Option Key) (m : Option Symbol) (a b : Bool) (r : Result ℕ TimeErr) → is_number piece ≡ b
    → token_by piece u k m a b r ≡ TNumber t → (piece ≡ t) × (is_number piece ≡ true)
number_at piece t true k m a b r e h = absurd (cc)
number_at piece t false (Some w) m a b r e h = absurd (cc)
number_at piece t false None (Some m) a b r e h = absurd (cc)
number_at piece t false None None true b r e h = absurd (cc)
number_at piece t false None None false true r e h = (cc, e)
number_at piece t false None None false false (Ok c) e h = absurd (cc)
number_at piece t false None None false false (Err x) e h = absurd (cc)

pub number_form : (lang : Dialect) (piece t : List ℕ) → token_of lang piece ≡ TNumber t → is_number t ≡ true
unfolding token_of
number_form lang piece t h =
    let e = number_at piece t (is_resolution lang piece) (key_of piece) (symbol_of piece) (is_name piece) (is_number piece) (time_in lang piece) refl h in
    subst (λ u. is_number u ≡ true) e.0 e.1

time_token_at : (lang : Dialect) (piece : List ℕ) (c : ℕ) (u : Bool) (k : Option Key) (m : Option Symbol) (a b : Bool) (r : Result ℕ TimeErr) → time_in lang piece ≡ r
    → token_by piece u k m a b r ≡ TTime c → time_in lang piece ≡ Ok c
time_token_at lang piece c true k m a b r e h = absurd (cc)
time_token_at lang piece c false (Some w) m a b r e h = absurd (cc)
time_token_at lang piece c false None (Some m) a b r e h = absurd (cc)
time_token_at lang piece c false None None true b r e h = absurd (cc)
time_token_at lang piece c false None None false true r e h = absurd (cc)
time_token_at lang piece c false None None false false (Ok d) e h = let same : d ≡ c = cc in e ∙ ap Ok same
time_token_at lang piece c false None None false false (Err x) e h = absurd (cc)

time_in_small : (lang : Dialect) (piece : List ℕ) (c : ℕ) → time_in lang piece ≡ Ok c → c < 10 ^ 18
time_in_small lang piece c h = go (has_resolution lang.version) h
  where
    go : (b : Bool) → cond b (time_at lang.resolution piece) (time_of piece) ≡ Ok c → c < 10 ^ 18
    go true e = time_at_small lang.resolution piece c e
    go false e = time_small piece c e

pub time_below : (lang : Dialect) (piece : List ℕ) (c : ℕ) → token_of lang piece ≡ TTime c → c < 10 ^ 18
unfolding token_of
time_below lang piece c h =
    time_in_small lang piece c
    (time_token_at lang piece c (is_resolution lang piece) (key_of piece) (symbol_of piece) (is_name piece) (is_number piece) (time_in lang piece) refl h)

-- names
pub record NameForm (n : List ℕ) : Type 0 where
  pub letter : first_letter n ≡ true
  pub parts : list_all is_part n ≡ true

name_form : (n : List ℕ) → is_name n ≡ true → NameForm n
name_form [] h = absurd (false≢true h)
name_form (c ∷ more) h =
    let a = and_parts (is_letter c && list_all is_part more) (nat_le (length (c ∷ more)) 64) h in
    let b = and_parts (is_letter c) (list_all is_part more) a.0 in
    record { letter = b.0; parts = and_from (is_part c) (list_all is_part more) (letter_part c b.0) b.1 }

pub name_writable : (lang : Dialect) (piece n : List ℕ) → token_of lang piece ≡ TName n → Writable lang (TName n)
name_writable lang piece n h =
    let e = name_piece lang piece n h in
    let form = name_form n (subst (λ u. is_name u ≡ true) e.0 e.1) in
    record {
      reads = subst (λ u. token_of lang u ≡ TName n) e.0 h;
      piece = word_at n (letter_first n form.letter) form.parts;
      plain = parts_plain n form.parts;
      some = first_some n (letter_first n form.letter);
    }

pub name_letter : (lang : Dialect) (piece n : List ℕ) → token_of lang piece ≡ TName n → first_letter n ≡ true
name_letter lang piece n h = let e = name_piece lang piece n h in (name_form n (subst (λ u. is_name u ≡ true) e.0 e.1)).letter

-- numbers
digit_no_letter : (b : ℕ) → is_digit b ≡ true → is_letter b ≡ false
digit_no_letter b h = grind (arith, nat_tests)

digit_is_part : (b : ℕ) → is_digit b ≡ true → is_part b ≡ true
digit_is_part b h = grind (arith, nat_tests)

digits_are_parts : (w : List ℕ) → list_all is_digit w ≡ true → list_all is_part w ≡ true
digits_are_parts [] h = refl
digits_are_parts (c ∷ w) h =
    let e = and_parts (is_digit c) (list_all is_digit w) h in and_from (is_part c) (list_all is_part w) (digit_is_part c e.0) (digits_are_parts w e.1)

-- a text that begins with a digit is no reserved word, no symbol and no name
record NoWord (t : List ℕ) : Type 0 where
  unitless : is_unit t ≡ false
  keyless : key_of t ≡ None
  signless : symbol_of t ≡ None
  nameless : is_name t ≡ false

digit_no_r : (c : ℕ) → is_digit c ≡ true → nat_eq c 114 ≡ false
digit_no_r c h = grind (arith, nat_tests)

digit_first : (c : ℕ) (t : List ℕ) → is_digit c ≡ true → NoWord (c ∷ t)
digit_first c t h = record {
  unitless = and_left (nat_eq c 114) (pointwise nat_eq t (codes "esolution")) (digit_no_r c h);
  keyless = no_key (c ∷ t) (digit_no_letter c h);
  signless = no_symbol (c ∷ t) (digit_is_part c h);
  nameless = rw (digit_no_letter c h) refl;
}

digits_first : (w t : List ℕ) → list_all is_digit w ≡ true → 1 ≤ length w → NoWord (w ++ t)
digits_first [] t h k = absurd (omega arith)
digits_first (c ∷ w) t h k = digit_first c (w ++ t) (and_parts (is_digit c) (list_all is_digit w) h).0

number_reads : (lang : Dialect) (t : List ℕ) → NoWord t → is_number t ≡ true → token_of lang t ≡ TNumber t
unfolding token_of
number_reads lang t w h = rw (no_unit lang t w.unitless, w.keyless, w.signless, w.nameless, h) refl

plain_append : (a b : List ℕ) → list_all is_plain a ≡ true → list_all is_plain b ≡ true → list_all is_plain (a ++ b) ≡ true
plain_append a b h k = list_all-append is_plain a b ∙ and_from (list_all is_plain a) (list_all is_plain b) h k

digits_plain : (w : List ℕ) → list_all is_digit w ≡ true → list_all is_plain w ≡ true
digits_plain w h = parts_plain w (digits_are_parts w h)

pub written_writable : (lang : Dialect) {t : List ℕ} → Written t → Writable lang (TNumber t)
written_writable lang (whole_number w s) =
    let some = s.some in
    record {
      reads = number_reads lang w (subst NoWord (append-nil w) (digits_first w [] s.digits s.some)) (written_number (whole_number w s));
      piece = digits_piece w s.digits s.some;
      plain = digits_plain w s.digits;
      some = omega arith;
    }
written_writable lang (with_fraction w f s u) =
    let some = s.some in
    record {
      reads = number_reads lang (w ++ 46 ∷ f) (digits_first w (46 ∷ f) s.digits s.some) (written_number (with_fraction w f s u));
      piece = number_piece w f s.digits s.some u.digits u.some;
      plain = plain_append w (46 ∷ f) (digits_plain w s.digits) (digits_plain f u.digits);
      some = omega (arith, length-append w (46 ∷ f));
    }

pub number_writable : (lang : Dialect) (piece t : List ℕ) → token_of lang piece ≡ TNumber t → Writable lang (TNumber (trimmed t))
number_writable lang piece t h = written_writable lang (trimmed_written t (number_form lang piece t h))

pub int_writable : (lang : Dialect) (n : ℕ) → n < 10 ^ 18 → Writable lang (TNumber (decimal n))
int_writable lang n h = written_writable lang (whole_number (decimal n) (decimal_side n h))

-- times
unit_parts : (unit : Resolution) → list_all is_part (unit_text unit) ≡ true
unit_parts Ps = refl
unit_parts Fs = refl

-- a number has digits and points alone, and a time has a letter
abbrev pub is_numeric : ℕ → Bool
is_numeric c = is_digit c || eqb c 46

digit_numeric : (c : ℕ) → is_digit c ≡ true → is_numeric c ≡ true
digit_numeric c h = rw h refl

digits_numeric : (w : List ℕ) → list_all is_digit w ≡ true → list_all is_numeric w ≡ true
digits_numeric [] h = refl
digits_numeric (c ∷ w) h =
    let e = and_parts (is_digit c) (list_all is_digit w) h in and_from (is_numeric c) (list_all is_numeric w) (digit_numeric c e.0) (digits_numeric w e.1)

written_numeric : {t : List ℕ} → Written t → list_all is_numeric t ≡ true
written_numeric (whole_number w s) = digits_numeric w s.digits
written_numeric (with_fraction w f s u) =
    list_all-append is_numeric w (46 ∷ f) ∙ and_from (list_all is_numeric w) (list_all is_numeric (46 ∷ f)) (digits_numeric w s.digits) (digits_numeric f u.digits)

unit_not_numeric : (unit : Resolution) → list_all is_numeric (unit_text unit) ≡ false
unit_not_numeric Ps = refl
unit_not_numeric Fs = refl

time_not_numeric : (d : List ℕ) (unit : Resolution) → list_all is_numeric (d ++ unit_text unit) ≡ false
time_not_numeric d unit = list_all-append is_numeric d (unit_text unit) ∙ and_right (list_all is_numeric d) (list_all is_numeric (unit_text unit)) (unit_not_numeric unit)

not_number : (t : List ℕ) → list_all is_numeric t ≡ false → is_number t ≡ false
not_number t h = go (is_number t) refl
  where
    go : (b : Bool) → is_number t ≡ b → is_number t ≡ false
    go true e = absurd (false≢true (sym h ∙ written_numeric (number_written t e)))
    go false e = e

time_reads : (lang : Dialect) (t : List ℕ) (c : ℕ) → NoWord t → is_number t ≡ false → time_in lang t ≡ Ok c → token_of lang t ≡ TTime c
unfolding token_of
time_reads lang t c w h e = rw (no_unit lang t w.unitless, w.keyless, w.signless, w.nameless, h, e) refl

time_parts : (d : List ℕ) (unit : Resolution) → list_all is_digit d ≡ true → list_all is_part (d ++ unit_text unit) ≡ true
time_parts d unit h = list_all-append is_part d (unit_text unit) ∙ and_from (list_all is_part d) (list_all is_part (unit_text unit)) (digits_are_parts d h) (unit_parts unit)

pub part_of_front : (d t : List ℕ) → list_all is_digit d ≡ true → 1 ≤ length d → first_part (d ++ t) ≡ true
part_of_front [] t h k = absurd (omega arith)
part_of_front (c ∷ d) t h k = digit_is_part c (and_parts (is_digit c) (list_all is_digit d) h).0

-- a dialect of some text: its counts are read again as they are written
abbrev pub Sound : Dialect → Type 0
Sound lang = (c : ℕ) → c < 10 ^ 18 → time_in lang (time_text lang.resolution c) ≡ Ok c

pub sound_old : (v : Version) → has_resolution v ≡ false → Sound (record { version = v; resolution = Ps })
sound_old v h c k = rw h (time_of_count c k)

at_unit : (unit : Resolution) (c : ℕ) → c < 10 ^ 18 → time_at unit (time_text unit c) ≡ Ok c
at_unit Ps c k = time_at_picoseconds c k
at_unit Fs c k = time_at_femtoseconds c k

pub sound_new : (unit : Resolution) → Sound (record { version = V3; resolution = unit })
sound_new unit c k = at_unit unit c k

pub time_writable : (lang : Dialect) → Sound lang → (c : ℕ) → c < 10 ^ 18 → Writable lang (TTime c)
time_writable lang sound c h =
    let s = decimal_side c h in
    let d = decimal c in
    let unit = lang.resolution in
    let some = s.some in
    record {
      reads = time_reads lang (d ++ unit_text unit) c (digits_first d (unit_text unit) s.digits s.some) (not_number (d ++ unit_text unit) (time_not_numeric d unit)) (sound c h);
      piece = word_at (d ++ unit_text unit) (part_of_front d (unit_text unit) s.digits s.some) (time_parts d unit s.digits);
      plain = parts_plain (d ++ unit_text unit) (time_parts d unit s.digits);
      some = omega (arith, length-append d (unit_text unit));
    }
