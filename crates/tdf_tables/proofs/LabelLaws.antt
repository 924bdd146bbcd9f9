-- Labels are told exactly: by the one token that they are.
use Rattle.std.proofs.Common.{◌≡◌, ℕ, Bool, true, false, ◌&&◌, nat_le, List, [], ◌∷◌, length, refl, arith, ◌∙◌, sym, ap, Option, Some, None, Result, Ok, Err, option_map, unwrap_or, if◌then◌else◌}
use Rattle.std.proofs.lemmas.Bool.{and_parts, and_from}
use Rattle.std.proofs.lemmas.Bool.Decides.{nat_tests}
use Rattle.std.specs.List.{AllByRecursion, list_all}
use Rattle.std.specs.Prelude.{is_none}
use Rattle.tdf_base.specs.declared.version.Version.TheVariants.{V1}
use Rattle.tdf_base.specs.Names.{is_letter, is_name, is_part}
use Rattle.tdf_base.specs.Number.{is_number}
use Rattle.tdf_base.specs.declared.resolution.Resolution.TheVariants.{Ps}
use Rattle.tdf_base.specs.declared.times.TimeErr.{TimeErr}
use Rattle.tdf_lang_lexer.proofs.Api.{symbols_are_read}
use Rattle.tdf_lang_lexer.specs.Dialect.{time_in, time_or_wrong, token_of}
use Rattle.tdf_lang_lexer.specs.Token.{TKey, TName, TNumber, TSymbol}
use Rattle.tdf_lang_lexer.specs.Words.{key_of, sign, symbol_of}
use Rattle.tdf_lang_lexer.specs.declared.key.Key.{Key}
use Rattle.tdf_lang_lexer.specs.declared.key.Symbol.{Symbol}
use Rattle.tdf_lang_lexer.specs.declared.key.Symbol.TheVariants as symbol
use Rattle.tdf_tables.proofs.Marks.{IsMarked, is_mark}
use Rattle.tdf_tables.specs.Tables.{IsLabel}
use Rattle.tdf_tables.specs.machine.Scan.{are_one_name, is_label}

-- ---- the token of a word

no_sign : (mark : Symbol) → is_name (sign mark) ≡ false
unfolding sign
no_sign symbol.Open = refl
no_sign symbol.Close = refl
no_sign symbol.OpenSquare = refl
no_sign symbol.CloseSquare = refl
no_sign symbol.Comma = refl
no_sign symbol.Point = refl
no_sign symbol.Plus = refl
no_sign symbol.Minus = refl
no_sign symbol.Times = refl
no_sign symbol.ShiftLeft = refl
no_sign symbol.ShiftRight = refl
no_sign symbol.Less = refl
no_sign symbol.AtMost = refl
no_sign symbol.Equal = refl
no_sign symbol.NotEqual = refl
no_sign symbol.Greater = refl
no_sign symbol.AtLeast = refl
no_sign symbol.Becomes = refl

no_name : (word : List ℕ) (mark : Symbol) → symbol_of word ≡ Some mark → is_name word ≡ false
no_name word mark e = ap is_name ((symbols_are_read mark word).0 e) ∙ no_sign mark

not_both : (b : Bool) → (b && false) ≡ false
not_both true = refl
not_both false = refl

token_by : (word : List ℕ) (k : Option Key) (m : Option Symbol) (a b : Bool) (r : Result ℕ TimeErr) → symbol_of word ≡ m → is_name word ≡ a
    → are_one_name (unwrap_or (option_map TKey k) (unwrap_or (option_map TSymbol m)
    (if a then TName word else if b then TNumber word else time_or_wrong r)) ∷ []) ≡ (a && is_none k)
token_by word (Some k) m a b r e f = sym (not_both a)
token_by word None (Some m) true b r e f = let g : true ≡ false = sym f ∙ no_name word m e in absurd (cc)
token_by word None (Some m) false b r e f = refl
token_by word None None true b r e f = refl
token_by word None None false true r e f = refl
token_by word None None false false (Ok t) e f = refl
token_by word None None false false (Err why) e f = refl

-- a word is one name as a token exactly where it is a label
pub label_token : (word : List ℕ) → are_one_name (token_of (record { version = V1; resolution = Ps }) word ∷ []) ≡ is_label word
unfolding token_of
label_token word = token_by word (key_of word) (symbol_of word) (is_name word) (is_number word) (time_in (record { version = V1; resolution = Ps }) word) refl refl

-- ---- labels

none_by : {A : Type 0} (x : Option A) → is_none x ≡ true → x ≡ None
none_by (Some x) h = let g : false ≡ true = h in absurd (cc)
none_by None h = refl

label_sound : (word : List ℕ) → is_label word ≡ true → IsLabel word
label_sound word h =
    let both = and_parts (is_name word) (is_none (key_of word)) h in
    record { name = both.0; own = none_by (key_of word) both.1 }

label_complete : (word : List ℕ) → IsLabel word → is_label word ≡ true
label_complete word h = and_from (is_name word) (is_none (key_of word)) h.name (ap is_none h.own)

pub labels_sound : (words : List (List ℕ)) → list_all is_label words ≡ true → AllByRecursion IsLabel words
labels_sound [] h = tt
labels_sound (w ∷ ws) h =
    let both = and_parts (is_label w) (list_all is_label ws) h in
    (label_sound w both.0, labels_sound ws both.1)

pub labels_complete : (words : List (List ℕ)) → AllByRecursion IsLabel words → list_all is_label words ≡ true
labels_complete [] h = refl
labels_complete (w ∷ ws) h = and_from (is_label w) (list_all is_label ws) (label_complete w h.0) (labels_complete ws h.1)

-- ---- their bytes

part_mark : (c : ℕ) → is_part c ≡ true → is_mark c ≡ true
part_mark c h = grind (arith, nat_tests)

letter_mark : (c : ℕ) → is_letter c ≡ true → is_mark c ≡ true
letter_mark c h = grind (arith, nat_tests)

parts_marked : (cs : List ℕ) → list_all is_part cs ≡ true → IsMarked cs
parts_marked [] h = refl
parts_marked (c ∷ cs) h =
    let both = and_parts (is_part c) (list_all is_part cs) h in
    and_from (is_mark c) (list_all is_mark cs) (part_mark c both.0) (parts_marked cs both.1)

name_marked : (word : List ℕ) → is_name word ≡ true → IsMarked word
name_marked [] h = let g : false ≡ true = h in absurd (cc)
name_marked (c ∷ cs) h =
    let both = and_parts (is_letter c && list_all is_part cs) (nat_le (length (c ∷ cs)) 64) h in
    let parts = and_parts (is_letter c) (list_all is_part cs) both.0 in
    and_from (is_mark c) (list_all is_mark cs) (letter_mark c parts.0) (parts_marked cs parts.1)

pub labels_marked : (words : List (List ℕ)) → AllByRecursion IsLabel words → AllByRecursion IsMarked words
labels_marked [] h = tt
labels_marked (w ∷ ws) h = (name_marked w h.0.name, labels_marked ws h.1)
