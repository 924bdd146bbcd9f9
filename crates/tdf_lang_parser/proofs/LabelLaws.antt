-- The label of a trace is a name among the tokens of its line, so no reserved word.
use Rattle.std.proofs.Common.{◌≡◌, ℕ, Bool, true, false, List, [], ◌∷◌, ◌++◌, Option, Some, None, Result, Ok, Err, refl, subst, map, option_map, unwrap_or, if◌then◌else◌}
use Rattle.std.proofs.lemmas.Option.{none-some, same_Some}
use Rattle.std.specs.List.{AllByRecursion}
use Rattle.tdf_base.specs.declared.version.Version.{Version}
use Rattle.tdf_base.specs.Names.{is_name}
use Rattle.tdf_base.specs.Number.{is_number}
use Rattle.tdf_base.specs.declared.times.TimeErr.{TimeErr}
use Rattle.tdf_lang_lexer.specs.Dialect.{is_resolution, time_in, time_or_wrong, token_lines, token_of}
use Rattle.tdf_lang_lexer.specs.Rows.{Row}
use Rattle.tdf_lang_lexer.specs.Token.{Tok, TName, TKey, TNumber, TTime, TSymbol, TWrong, TokenLine}
use Rattle.tdf_lang_lexer.specs.Words.{key_of, symbol_of}
use Rattle.tdf_lang_lexer.specs.declared.dialect.Dialect.{Dialect}
use Rattle.tdf_lang_lexer.specs.declared.key.Key.{Key}
use Rattle.tdf_lang_lexer.specs.declared.key.Symbol.{Symbol}
use Rattle.tdf_lang_lines.specs.SpellsLine.{SpellsWord, word_top, word_end, word_set_attributes, word_initialize, word_processing, word_change_attributes, word_reinitialize, word_does, word_accept, word_reject, word_process, word_dont_initialize, word_else, SpellsNamed, named_tdf, named_de, named_composite, named_event, named_sensitive, SpellsLine, word_line, named_line, type_line, port_line, const_line, var_line, array_line, rate_var_line, step_line, port_step_line, rate_line, delay_line, initial_line, notify_line, notify_after_line, signal_line, de_signal_line, instance_line, bind_line, trace_line, assign_line, assign_item_line, if_line, for_line, set_rate_line}
use Rattle.tdf_lang_parser.specs.Formed.{HasOwnLabel}
use Rattle.tdf_lang_parser.specs.Items.{trace_item}
use Rattle.tdf_lang_parser.specs.SpellsTree.{Lines, lines_none, lines_more}
use Rattle.tdf_lang_tree.specs.Forms.{Form, FTrace}
use Rattle.tdf_lang_tree.specs.Pure.{PureTrace}

-- ---- the names among tokens

abbrev pub IsOwn : Tok → Type 0
IsOwn (TName name) = key_of name ≡ None
IsOwn _ = Unit {0}

abbrev pub AreOwn : List Tok → Type 0
AreOwn [] = Unit {0}
AreOwn (t ∷ ts) = IsOwn t × AreOwn ts

own_at : (piece : List ℕ) (w : Bool) (k : Option Key) (m : Option Symbol) (a b : Bool) (r : Result ℕ TimeErr) → key_of piece ≡ k
    → IsOwn (if w then TWrong else unwrap_or (option_map TKey k) (unwrap_or (option_map TSymbol m)
    (if a then TName piece else if b then TNumber piece else time_or_wrong r)))
own_at piece true k m a b r e = tt
own_at piece false (Some k) m a b r e = tt
own_at piece false None (Some m) a b r e = tt
own_at piece false None None true b r e = e
own_at piece false None None false true r e = tt
own_at piece false None None false false (Ok t) e = tt
own_at piece false None None false false (Err why) e = tt

token_own : (d : Dialect) (piece : List ℕ) → IsOwn (token_of d piece)
unfolding token_of
token_own d piece = own_at piece (is_resolution d piece) (key_of piece) (symbol_of piece) (is_name piece) (is_number piece) (time_in d piece) refl

tokens_own : (d : Dialect) (pieces : List (List ℕ)) → AreOwn (map (token_of d) pieces)
tokens_own d [] = tt
tokens_own d (piece ∷ pieces) = (token_own d piece, tokens_own d pieces)

abbrev pub OwnRows : List TokenLine → Type 0
OwnRows [] = Unit {0}
OwnRows (h ∷ hs) = AreOwn h.tokens × OwnRows hs

pub rows_own : (lang : Dialect) (rows : List Row) → OwnRows (token_lines lang rows)
rows_own lang [] = tt
rows_own lang (r ∷ rows) = (tokens_own lang r.pieces, rows_own lang rows)

pub own_after : (a b : List TokenLine) → OwnRows (a ++ b) → OwnRows b
own_after [] b k = k
own_after (h ∷ a) b k = own_after a b k.1

own_front : (a b : List TokenLine) → OwnRows (a ++ b) → OwnRows a
own_front [] b k = tt
own_front (h ∷ a) b k = (k.0, own_front a b k.1)

own_last : (a : List Tok) (name : List ℕ) → AreOwn (a ++ TName name ∷ []) → key_of name ≡ None
own_last [] name h = h.0
own_last (t ∷ a) name h = own_last a name h.1

-- ---- lines

abbrev OwnLabel : Form → Type 0
OwnLabel (FTrace path label) = key_of label ≡ None
OwnLabel _ = Unit {0}

word_owns : {word : Key} {f : Form} → SpellsWord word f → OwnLabel f
word_owns word_top = tt
word_owns word_end = tt
word_owns word_set_attributes = tt
word_owns word_initialize = tt
word_owns word_processing = tt
word_owns word_change_attributes = tt
word_owns word_reinitialize = tt
word_owns word_does = tt
word_owns word_accept = tt
word_owns word_reject = tt
word_owns word_process = tt
word_owns word_dont_initialize = tt
word_owns word_else = tt

named_owns : {word : Key} {name : List ℕ} {f : Form} → SpellsNamed word name f → OwnLabel f
named_owns (named_tdf name) = tt
named_owns (named_de name) = tt
named_owns (named_composite name) = tt
named_owns (named_event name) = tt
named_owns (named_sensitive name) = tt

line_owns : {v : Version} {ts : List Tok} {f : Form} → SpellsLine v ts f → AreOwn ts → OwnLabel f
line_owns (word_line word d) h = word_owns d
line_owns (named_line word name d) h = named_owns d
line_owns (type_line name d) h = tt
line_owns (port_line word name d e) h = tt
line_owns (const_line name d e) h = tt
line_owns (var_line name d e) h = tt
line_owns (array_line name text d e g) h = tt
line_owns (rate_var_line name first second third c d e) h = tt
line_owns (step_line count) h = tt
line_owns (port_step_line port count) h = tt
line_owns (rate_line port d) h = tt
line_owns (delay_line port text e) h = tt
line_owns (initial_line port text e d) h = tt
line_owns (notify_line event) h = tt
line_owns (notify_after_line event count) h = tt
line_owns (signal_line name d) h = tt
line_owns (de_signal_line name d e) h = tt
line_owns (instance_line name block) h = tt
line_owns (bind_line instance port target) h = tt
line_owns (trace_line label {a = a} d) h = own_last a label h.1
line_owns (assign_line name d) h = tt
line_owns (assign_item_line name d e) h = tt
line_owns (if_line d) h = tt
line_owns (for_line name text e d) h = tt
line_owns (set_rate_line name d) h = tt

-- ---- traces

trace_owns : (line : ℕ) (f : Form) (t : PureTrace) → trace_item line f ≡ Some t → OwnLabel f → HasOwnLabel t
trace_owns line (FTrace path label) t is h = subst HasOwnLabel (same_Some (record { line = line; path = path; label = label }) t is) h
trace_owns line _ t is h = absurd (none-some t is)

one_more : (xs : List PureTrace) (x : PureTrace) → AllByRecursion HasOwnLabel xs → HasOwnLabel x → AllByRecursion HasOwnLabel (xs ++ x ∷ [])
one_more [] x all is = (is, tt)
one_more (y ∷ xs) x all is = (all.0, one_more xs x all.1 is)

pub traces_own : {lang : Dialect} {rows : List TokenLine} {ts : List PureTrace} → Lines lang trace_item rows ts → OwnRows rows → AllByRecursion HasOwnLabel ts
traces_own lines_none own = tt
traces_own (lines_more {a = a} {xs = xs} {f = f} {x = x} before h spelled is) own =
    one_more xs x (traces_own before (own_front a (h ∷ []) own))
    (trace_owns h.number f x is (line_owns spelled (own_after a (h ∷ []) own).0))
