-- A line form is read: what the tokens mean is what is read from them.
use Rattle.std.proofs.Common.{◌≡◌, ℕ, ◌-◌, List, [], ◌∷◌, ◌++◌, length, take, drop, Option, Some, refl, ap, ◌∙◌, arith, length-append}
use Rattle.std.proofs.lemmas.List.{drop_at, take_at}
use Rattle.tdf_base.specs.declared.version.Version.{Version}
use Rattle.tdf_lang_lexer.specs.Token.{Tok, TName, TKey, TNumber, TSymbol}
use Rattle.tdf_lang_lexer.specs.declared.key.Key.{Key}
use Rattle.tdf_lang_lexer.specs.declared.key.Key.TheVariants as key
use Rattle.tdf_lang_lexer.specs.declared.key.Symbol.TheVariants as symbol
use Rattle.tdf_lang_tree.specs.declared.blocks.PortKind.{PortKind}
use Rattle.tdf_lang_tree.specs.declared.expr.Index.{Index}
use Rattle.tdf_lang_tree.specs.declared.names.Lit.{Lit}
use Rattle.tdf_lang_tree.specs.declared.shapes.FormatRef.{FormatRef}
use Rattle.tdf_lang_tree.specs.declared.stmt.Limit.{Limit}
use Rattle.tdf_lang_exprs.proofs.Api.{lit_reads, lits_of_reads, path_of_reads, shape_reads, format_reads, format_ends, index_reads, expr_reads}
use Rattle.tdf_lang_exprs.specs.Formats.{SpellsFormat, BeginsWithNoKey}
use Rattle.tdf_lang_exprs.specs.machine.Formats.{format_of}
use Rattle.tdf_lang_exprs.specs.Index.{SpellsIndex, index_int, index_var, index_plus, index_minus, index_from, index_times, index_times_plus}
use Rattle.tdf_lang_exprs.specs.Literals.{SpellsLit, lit_plain, lit_minus}
use Rattle.tdf_lang_exprs.specs.machine.Literals.{lit_of, lits_of}
use Rattle.tdf_lang_exprs.specs.machine.Indices.{index_of}
use Rattle.tdf_base.specs.Digits.{int_of}
use Rattle.tdf_lang_exprs.specs.machine.Paths.{path_of}
use Rattle.tdf_lang_tree.specs.Forms.{Form, FRate, FConst, FVar, FArray, FDeSignal, FTrace, FPort}
use Rattle.tdf_lang_lines.specs.SpellsLine.{SpellsLine, word_line, named_line, type_line, port_line, const_line, var_line, array_line, rate_var_line, step_line, port_step_line, rate_line, delay_line, initial_line, notify_line, notify_after_line, signal_line, de_signal_line, instance_line, bind_line, trace_line, assign_line, assign_item_line, if_line, for_line, set_rate_line, SpellsWord, word_top, word_end, word_set_attributes, word_initialize, word_processing, word_change_attributes, word_reinitialize, word_does, word_accept, word_reject, word_process, word_dont_initialize, word_else, SpellsNamed, named_tdf, named_de, named_composite, named_event, named_sensitive, SpellsPort, port_in, port_out, port_de_in, port_de_out, SpellsLimit, limit_int, limit_var, limit_times, SpellsStart, start_none, start_some}
use Rattle.tdf_lang_lines.specs.machine.Reads.{form_of, both_of, three_of, times_rate, limit_of, start_of, cut_first, cut_rest, array_rest, trace_form, item_close}

-- forms of two and three parts
both_is : {A B : Type 0} (make : A → B → Form) (a : Option A) (b : Option B) (x : A) (y : B) → a ≡ Some x → b ≡ Some y → both_of make a b ≡ Some (make x y)
both_is make a b x y e f = rw (e, f) refl

three_is : {A B C : Type 0} (make : A → B → C → Form) (a : Option A) (b : Option B) (c : Option C) (x : A) (y : B) (z : C) → a ≡ Some x → b ≡ Some y → c ≡ Some z
    → three_of make a b c ≡ Some (make x y z)
three_is make a b c x y z e f g = rw (e, f, g) refl

limit_reads : {v : Version} {ts : List Tok} {l : Limit} → SpellsLimit v ts l → limit_of v ts ≡ Some l
limit_reads (limit_int text e) = rw e refl
limit_reads (limit_var name) = refl
limit_reads {v = v} (limit_times h text name e) = rw (e, h) refl

-- a literal begins with no reserved word, and has a token
lit_no_key : {ts : List Tok} {v : Lit} → SpellsLit ts v → BeginsWithNoKey ts
lit_no_key (lit_plain text) = tt
lit_no_key (lit_minus text) = tt

start_no_key : {ts : List Tok} {v : Lit} → SpellsStart ts v → BeginsWithNoKey ts
start_no_key start_none = tt
start_no_key (start_some d) = lit_no_key d

lit_starts : {ts : List Tok} {v : Lit} → SpellsLit ts v → start_of ts ≡ Some v
lit_starts (lit_plain text) = lit_reads (lit_plain text)
lit_starts (lit_minus text) = lit_reads (lit_minus text)

start_reads : {ts : List Tok} {v : Lit} → SpellsStart ts v → start_of ts ≡ Some v
start_reads start_none = refl
start_reads (start_some d) = lit_starts d

-- a format that stands first is cut off
cut_first_is : {a : List Tok} {x : FormatRef} → SpellsFormat a x → (b : List Tok) → BeginsWithNoKey b → cut_first (a ++ b) ≡ Some x
cut_first_is {a = a} d b h = ap (λ (n : ℕ). format_of (take n (a ++ b))) (format_ends d b h) ∙ ap format_of (take_at a b (length a) refl) ∙ format_reads d

cut_rest_is : {a : List Tok} {x : FormatRef} → SpellsFormat a x → (b : List Tok) → BeginsWithNoKey b → cut_rest (a ++ b) ≡ b
cut_rest_is {a = a} d b h = ap (λ (n : ℕ). drop n (a ++ b)) (format_ends d b h) ∙ drop_at a b (length a) refl

-- a line that is one reserved word
word_reads : (v : Version) {word : Key} {f : Form} → SpellsWord word f → form_of v (TKey word ∷ []) ≡ Some f
unfolding form_of
word_reads v word_top = refl
word_reads v word_end = refl
word_reads v word_set_attributes = refl
word_reads v word_initialize = refl
word_reads v word_processing = refl
word_reads v word_change_attributes = refl
word_reads v word_reinitialize = refl
word_reads v word_does = refl
word_reads v word_accept = refl
word_reads v word_reject = refl
word_reads v word_process = refl
word_reads v word_dont_initialize = refl
word_reads v word_else = refl

named_reads : (v : Version) {word : Key} {name : List ℕ} {f : Form} → SpellsNamed word name f → form_of v (TKey word ∷ TName name ∷ []) ≡ Some f
unfolding form_of
named_reads v (named_tdf name) = refl
named_reads v (named_de name) = refl
named_reads v (named_composite name) = refl
named_reads v (named_event name) = refl
named_reads v (named_sensitive name) = refl

port_reads : (v : Version) {word : Key} {kind : PortKind} → SpellsPort word kind → (name : List ℕ) (a : List Tok) (x : FormatRef) → format_of a ≡ Some x
    → form_of v (TKey word ∷ TName name ∷ a) ≡ Some (FPort kind name x)
unfolding form_of
port_reads v port_in name a x e = rw e refl
port_reads v port_out name a x e = rw e refl
port_reads v port_de_in name a x e = rw e refl
port_reads v port_de_out name a x e = rw e refl

rate_reads : {v : Version} (port : List ℕ) {a : List Tok} {l : Limit} → SpellsLimit v a l → form_of v (TKey key.Rate ∷ TName port ∷ a) ≡ Some (FRate port l)
unfolding form_of times_rate
rate_reads port (limit_int text e) = rw e refl
rate_reads port (limit_var name) = refl
rate_reads {v = v} port (limit_times h text name e) = rw (e, h) refl

trace_reads : (label : List ℕ) (a : List Tok) (path : List (List ℕ)) → path_of a ≡ Some path → trace_form (a ++ TName label ∷ []) ≡ Some (FTrace path label)
trace_reads label a path e =
    let n : length (a ++ TName label ∷ []) - 1 ≡ length a = omega (arith, length-append a (TName label ∷ [])) in
    rw (n, take_at a (TName label ∷ []) (length a) refl, drop_at a (TName label ∷ []) (length a) refl, e) refl

array_reads : (name text : List ℕ) (first : Option FormatRef) (rest b : List Tok) (x : FormatRef) (n : ℕ) (vs : List Lit) → first ≡ Some x → rest ≡ TNumber text ∷ b
    → int_of text ≡ Some n → lits_of b ≡ Some vs → array_rest name first rest ≡ Some (FArray name x n vs)
array_reads name text first rest b x n vs e f g h = rw (e, f) (rw (g, h) refl)

index_cut : {v : Version} (name : List ℕ) {a : List Tok} {i : Index} (b : List Tok) → SpellsIndex v a i
    → form_of v (TName name ∷ TSymbol symbol.OpenSquare ∷ (a ++ TSymbol symbol.CloseSquare ∷ b)) ≡ item_close v name (index_of v a) (TSymbol symbol.CloseSquare ∷ b)
unfolding form_of
index_cut name b (index_int text e) = refl
index_cut name b (index_var n) = refl
index_cut name b (index_plus n text e) = refl
index_cut name b (index_minus n text e) = refl
index_cut name b (index_from n text e) = refl
index_cut name b (index_times h text n e) = refl
index_cut name b (index_times_plus h first n second e f) = refl

pub form_is : {v : Version} {ts : List Tok} {f : Form} → SpellsLine v ts f → form_of v ts ≡ Some f
unfolding form_of
form_is (word_line word w) = word_reads _ w
form_is (named_line word name w) = named_reads _ w
form_is (type_line name d) = rw (shape_reads d) refl
form_is (port_line word name {a = a} {x = x} p d) = port_reads _ p name a x (format_reads d)
form_is (const_line name {a = a} {b = b} {x = x} {v = v} d e) =
    both_is (FConst name) _ _ x v (cut_first_is d b (lit_no_key e)) (ap lit_of (cut_rest_is d b (lit_no_key e)) ∙ lit_reads e)
form_is (var_line name {a = a} {b = b} {x = x} {v = v} d e) =
    both_is (FVar name) _ _ x v (cut_first_is d b (start_no_key e)) (ap start_of (cut_rest_is d b (start_no_key e)) ∙ start_reads e)
form_is (array_line name text {a = a} {b = b} {x = x} {n = n} {vs = vs} d e f) =
    array_reads name text _ _ b x n vs (cut_first_is d (TNumber text ∷ b) tt) (cut_rest_is d (TNumber text ∷ b) tt) e (lits_of_reads f)
form_is (rate_var_line name first second third e f g) = rw (e, f, g) refl
form_is (step_line count) = refl
form_is (port_step_line port count) = refl
form_is (rate_line port d) = rate_reads port d
form_is (delay_line port text e) = rw e refl
form_is (initial_line port text e d) = rw e (rw (lit_reads d) refl)
form_is (notify_line event) = refl
form_is (notify_after_line event count) = refl
form_is (signal_line name d) = rw (format_reads d) refl
form_is (de_signal_line name {a = a} {b = b} {x = x} {v = v} d e) =
    both_is (FDeSignal name) _ _ x v (cut_first_is d b (start_no_key e)) (ap start_of (cut_rest_is d b (start_no_key e)) ∙ start_reads e)
form_is (instance_line name block) = refl
form_is (bind_line instance port target) = refl
form_is (trace_line label {a = a} {path = path} d) = trace_reads label a path (path_of_reads d)
form_is (assign_line name d) = rw (expr_reads d) refl
form_is (assign_item_line name {a = a} {b = b} {i = i} {e = e} d x) =
    index_cut name (TSymbol symbol.Becomes ∷ b) d ∙ rw (index_reads d, expr_reads x) refl
form_is (if_line d) = rw (expr_reads d) refl
form_is (for_line name text e d) = rw e (rw (limit_reads d) refl)
form_is (set_rate_line name d) = rw (expr_reads d) refl
