-- Cutting lists of tokens.
use Rattle.std.proofs.Common.{◌≡◌, ◌∙◌, ap, ℕ, ◌≤◌, List, [], ◌∷◌, length, take, drop, map, refl, arith, min}
use Rattle.std.proofs.lemmas.List.{take-map, drop-map, length-map, drop_min, take_min}
use Rattle.tdf_lang_exprs.specs.machine.Formats.{format_len, keys_first}
use Rattle.std.specs.Prelude.{Bool, true, false, cond, Option, None}
use Rattle.tdf_base.specs.Version.{has_multiples}
use Rattle.tdf_base.specs.declared.version.Version.{Version}
use Rattle.tdf_lang_lines.specs.machine.Reads.{array_rest, both_of, second_rate, third_rate, times_limit, times_rate, name_limit, number_limit, item_value, item_close}
use Rattle.tdf_lang_lexer.specs.declared.key.Symbol.{Symbol}
use Rattle.tdf_lang_lexer.specs.declared.key.Symbol.TheVariants as symbol
use Rattle.tdf_base.specs.Digits.{int_of}
use Rattle.tdf_lang_tree.specs.Forms.{Form}
use Rattle.tdf_lang_tree.specs.declared.names.Lit.{Lit}
use Rattle.tdf_lang_tree.specs.declared.shapes.FormatRef.{FormatRef}
use Rattle.tdf_lang_tree.specs.declared.stmt.Limit.{Limit}
use Rattle.tdf_lang_lexer.specs.Token.{Tok, TName, TKey, TNumber, TSymbol, tok}
use Rattle.tdf_lang_lexer.specs.declared.token.Token.{Token}

pub keys_first-le : (ts : List Tok) → keys_first ts ≤ length ts
keys_first-le (TKey word ∷ (TKey other ∷ ts)) = omega arith
keys_first-le _ = omega arith

pub format_len-le : (ts : List Tok) → format_len ts ≤ length ts
format_len-le (TKey word ∷ (TNumber first ∷ (TNumber second ∷ ts))) = omega (arith, keys_first-le ts)
format_len-le _ = omega arith

pub length-tok : (ts : List Token) → length (map tok ts) ≡ length ts
length-tok ts = length-map ts tok

pub take-tok : (n : ℕ) (ts : List Token) → take n (map tok ts) ≡ map tok (take n ts)
take-tok n ts = take-map tok n ts

pub drop-tok : (n : ℕ) (ts : List Token) → drop n (map tok ts) ≡ map tok (drop n ts)
drop-tok n ts = drop-map tok n ts

pub take_least : (n : ℕ) (ts : List Tok) → take (min n (length ts)) ts ≡ take n ts
take_least n ts = take_min n ts

pub drop_least : (n : ℕ) (ts : List Tok) → drop (min n (length ts)) ts ≡ drop n ts
drop_least n ts = drop_min n ts

pub ruleset cut_laws = (length-tok, take-tok, drop-tok)

pub ruleset format_laws = (length-tok, format_len-le)

pub ruleset index_laws = (length-tok, take_least, drop_least)

-- a format that isn't one makes no array line
pub array_none : (name : List ℕ) (ts : List Tok) → array_rest name None ts ≡ None
array_none name (TNumber text ∷ ts) = refl
array_none name _ = refl

none_by : (b : Bool) (o : Option Limit) → o ≡ None → cond b o None ≡ None
none_by true o e = e
none_by false o e = refl

third_none : (name : List ℕ) (second : Option ℕ) (ts : List Tok) → third_rate name None second ts ≡ None
third_none name second (TNumber third ∷ []) = refl
third_none name second _ = refl

-- a first number that is none makes no limit and no rate line
name_none : (v : Version) (ts : List Tok) → name_limit v None ts ≡ None
name_none v (TName name ∷ []) = none_by (has_multiples v) None refl
name_none v _ = refl

times_none : (v : Version) (c : Symbol) (ts : List Tok) → times_limit v c None ts ≡ None
times_none v symbol.Times ts = name_none v ts
times_none v _ ts = refl

pub number_none : (v : Version) (ts : List Tok) → number_limit v None ts ≡ None
number_none v [] = refl
number_none v (TSymbol c ∷ ts) = times_none v c ts
number_none v _ = refl

rate_none : (v : Version) (c : Symbol) (name : List ℕ) (ts : List Tok) → times_rate v c name None ts ≡ None
unfolding times_rate
rate_none v c name ts = rw (times_none v c ts) refl

pub second_none : (v : Version) (name : List ℕ) (ts : List Tok) → second_rate v name None ts ≡ None
second_none v name [] = refl
second_none v name (TNumber second ∷ ts) = third_none name (int_of second) ts
second_none v name (TSymbol c ∷ ts) = rate_none v c name ts
second_none v name _ = refl

-- an index that isn't one makes no assignment
value_none : (v : Version) (name : List ℕ) (ts : List Tok) → item_value v name None ts ≡ None
value_none v name (TSymbol symbol.Becomes ∷ ts) = refl
value_none v name _ = refl

pub close_none : (v : Version) (name : List ℕ) (ts : List Tok) → item_close v name None ts ≡ None
close_none v name (TSymbol symbol.CloseSquare ∷ ts) = value_none v name ts
close_none v name _ = refl

-- equal parts make equal forms
pub valued_same : (make : List ℕ → FormatRef → Lit → Form) (m n : List ℕ) (f g : Option FormatRef) (o p : Option Lit) → m ≡ n → f ≡ g → o ≡ p
    → both_of (make m) f o ≡ both_of (make n) g p
valued_same make m n f g o p d e h = ap (λ (x : List ℕ). both_of (make x) f o) d ∙ ap (λ (x : Option FormatRef). both_of (make n) x o) e ∙ ap (λ (x : Option Lit). both_of (make n) g x) h
