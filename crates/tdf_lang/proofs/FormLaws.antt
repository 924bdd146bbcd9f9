-- The canonical tokens of a line are a line of the same form.
use Rattle.std.proofs.Common.{◌≡◌, ℕ, Bool, true, false, not, List, [], ◌∷◌, Some, refl, sym, subst, append_assoc, arith}
use Rattle.std.specs.Prelude.{codes}
use Rattle.std.specs.Fmt.{decimal}
use Rattle.tdf_fixed.specs.declared.over.Over.{Over}
use Rattle.tdf_fixed.specs.declared.over.Over.TheVariants.{Wrap, Sat, SatZero, SatSym}
use Rattle.tdf_fixed.specs.declared.quant.Quant.{Quant}
use Rattle.tdf_fixed.specs.declared.quant.Quant.TheVariants.{Trn, TrnZero, Rnd, RndZero, RndMinInf, RndInf, RndConv}
use Rattle.tdf_lang_tree.specs.Forms.{Form, FAssign}
use Rattle.tdf_lang_lines.specs.SpellsLine.{zero_lit, SpellsStart, start_none, start_some, SpellsLimit, limit_int, limit_var, limit_times, SpellsPort, port_in, port_out, port_de_in, port_de_out, SpellsWord, word_top, word_end, word_set_attributes, word_initialize, word_processing, word_change_attributes, word_reinitialize, word_does, word_accept, word_reject, word_process, word_dont_initialize, word_else, SpellsNamed, named_tdf, named_de, named_composite, named_event, named_sensitive, SpellsLine, word_line, named_line, type_line, port_line, const_line, var_line, array_line, rate_var_line, step_line, port_step_line, rate_line, delay_line, initial_line, notify_line, notify_after_line, signal_line, de_signal_line, instance_line, bind_line, trace_line, assign_line, assign_item_line, if_line, for_line, set_rate_line}
use Rattle.tdf_lang_exprs.specs.Numbers.{trimmed}
use Rattle.tdf_lang_exprs.specs.Formats.{sign_of, quant_of, over_of, modes_both, SpellsShape, shape, SpellsFormat, format_own, format_named}
use Rattle.tdf_lang_exprs.specs.Literals.{is_nought, SpellsLit, lit_plain, lit_minus, SpellsLits, lits_none, lits_more}
use Rattle.tdf_lang_exprs.specs.Paths.{SpellsPath, path_one, path_more}
use Rattle.tdf_lang_lexer.specs.Token.{Tok, TName, TNumber, TSymbol}
use Rattle.tdf_lang_lexer.specs.declared.dialect.Dialect.{Dialect}
use Rattle.tdf_lang_lexer.specs.declared.key.Key.{Key}
use Rattle.tdf_lang_lexer.specs.declared.key.Key.TheVariants as key
use Rattle.tdf_lang_lexer.specs.declared.key.Symbol.TheVariants as symbol
use Rattle.tdf_lang_tree.specs.declared.blocks.PortKind.{PortKind}
use Rattle.tdf_lang_tree.specs.declared.names.Lit.{Lit}
use Rattle.tdf_lang_tree.specs.declared.shapes.FormatRef.{FormatRef}
use Rattle.tdf_lang_tree.specs.declared.shapes.Shape.{Shape}
use Rattle.tdf_lang_tree.specs.declared.stmt.Limit.{Limit}
use Rattle.tdf_lang.proofs.TokenLines.{AreTokens}
use Rattle.tdf_lang.proofs.ExprLaws.{name_ok, int_ok, int_again, index_ok, index_again, expr_ok, expr_again, digits_ok, all_left, all_right}
use Rattle.tdf_lang.proofs.ExprWords.{NameOk, index_tokens, expr_tokens}
use Rattle.tdf_lang.proofs.FormWords.{sign_key, quant_key, over_key, shape_tokens, format_tokens, signed_tokens, lit_tokens, lits_tokens, limit_tokens, path_tokens, port_key, form_tokens, ShapeOk, FormatOk, LitOk, LitsOk, LimitOk, PathOk, FormOk}
use Rattle.tdf_lang.proofs.Numerals.{trimmed_twice, trimmed_zero, whole_number}
use Rattle.tdf_lang.proofs.Tokens.{Sound, time_below, time_writable, written_writable}

-- names, numbers and times of a line can be written
shape_ok : (lang : Dialect) {ts : List Tok} {s : Shape} → SpellsShape ts s → ShapeOk lang s
shape_ok lang (shape w first second {wl = m} {iwl = n} a b c d) = (int_ok lang first m b, int_ok lang second n c)

format_ok : (lang : Dialect) {ts : List Tok} {x : FormatRef} → SpellsFormat ts x → AreTokens lang ts → FormatOk lang x
format_ok lang (format_own d) h = shape_ok lang d
format_ok lang (format_named name) h = name_ok lang name h.0

lit_ok : (lang : Dialect) {ts : List Tok} {v : Lit} → SpellsLit ts v → AreTokens lang ts → LitOk lang v
lit_ok lang (lit_plain text) h = digits_ok lang text h.0
lit_ok lang (lit_minus text) h = digits_ok lang text h.1.0

zero_ok : (lang : Dialect) → LitOk lang zero_lit
zero_ok lang = (written_writable lang (whole_number (codes "0") (record { digits = refl; some = omega arith; few = omega arith })), refl)

start_ok : (lang : Dialect) {ts : List Tok} {v : Lit} → SpellsStart ts v → AreTokens lang ts → LitOk lang v
start_ok lang start_none h = zero_ok lang
start_ok lang (start_some d) h = lit_ok lang d h

lits_ok : (lang : Dialect) {ts : List Tok} {vs : List Lit} → SpellsLits ts vs → AreTokens lang ts → LitsOk lang vs
lits_ok lang lits_none h = tt
lits_ok lang (lits_more {a = a} d e) h = (lit_ok lang d (all_left lang a _ h), lits_ok lang e (all_right lang a _ h))

limit_ok : (lang : Dialect) {ts : List Tok} {l : Limit} → SpellsLimit lang.version ts l → AreTokens lang ts → LimitOk lang l
limit_ok lang (limit_int text {n = n} is) h = int_ok lang text n is
limit_ok lang (limit_var name) h = name_ok lang name h.0
limit_ok lang (limit_times two text name {n = n} is) h = (int_ok lang text n is, name_ok lang name h.1.1.0)

path_more_ok : (lang : Dialect) (n : List ℕ) (names : List (List ℕ)) → NameOk lang n → PathOk lang names → PathOk lang (n ∷ names)
path_more_ok lang n [] h k = absurd k
path_more_ok lang n (m ∷ ms) h k = (h, k)

path_ok : (lang : Dialect) {ts : List Tok} {names : List (List ℕ)} → SpellsPath ts names → AreTokens lang ts → PathOk lang names
path_ok lang (path_one name) h = name_ok lang name h.0
path_ok lang (path_more name {names = names} d) h = path_more_ok lang name names (name_ok lang name h.0) (path_ok lang d h.1.1)

word_ok : (lang : Dialect) {w : Key} {f : Form} → SpellsWord w f → FormOk lang f
word_ok lang word_top = tt
word_ok lang word_end = tt
word_ok lang word_set_attributes = tt
word_ok lang word_initialize = tt
word_ok lang word_processing = tt
word_ok lang word_change_attributes = tt
word_ok lang word_reinitialize = tt
word_ok lang word_does = tt
word_ok lang word_accept = tt
word_ok lang word_reject = tt
word_ok lang word_process = tt
word_ok lang word_dont_initialize = tt
word_ok lang word_else = tt

named_ok : (lang : Dialect) {w : Key} {n : List ℕ} {f : Form} → SpellsNamed w n f → NameOk lang n → FormOk lang f
named_ok lang (named_tdf name) h = h
named_ok lang (named_de name) h = h
named_ok lang (named_composite name) h = h
named_ok lang (named_event name) h = h
named_ok lang (named_sensitive name) h = h

pub form_ok : (lang : Dialect) → Sound lang → {ts : List Tok} {f : Form} → SpellsLine lang.version ts f → AreTokens lang ts → FormOk lang f
form_ok lang sound (word_line w d) h = word_ok lang d
form_ok lang sound (named_line w name d) h = named_ok lang d (name_ok lang name h.1.0)
form_ok lang sound (type_line name d) h = (name_ok lang name h.1.0, shape_ok lang d)
form_ok lang sound (port_line w name d e) h = (name_ok lang name h.1.0, format_ok lang e h.1.1)
form_ok lang sound (const_line name {a = a} d e) h = (name_ok lang name h.1.0, format_ok lang d (all_left lang a _ h.1.1), lit_ok lang e (all_right lang a _ h.1.1))
form_ok lang sound (var_line name {a = a} d e) h = (name_ok lang name h.1.0, format_ok lang d (all_left lang a _ h.1.1), start_ok lang e (all_right lang a _ h.1.1))
form_ok lang sound (array_line name text {a = a} {n = n} d is e) h =
    (name_ok lang name h.1.0, format_ok lang d (all_left lang a _ h.1.1), int_ok lang text n is, lits_ok lang e (all_right lang a _ h.1.1).1)
form_ok lang sound (rate_var_line name first second third {least = l} {greatest = g} {start = s} x y z) h = (name_ok lang name h.1.0, int_ok lang first l x, int_ok lang second g y, int_ok lang third s z)
form_ok lang sound (step_line count) h = time_writable lang sound count (time_below lang h.1.0.0 count h.1.0.1)
form_ok lang sound (port_step_line port count) h = (name_ok lang port h.1.0, time_writable lang sound count (time_below lang h.1.1.0.0 count h.1.1.0.1))
form_ok lang sound (rate_line port d) h = (name_ok lang port h.1.0, limit_ok lang d h.1.1)
form_ok lang sound (delay_line port text {n = n} is) h = (name_ok lang port h.1.0, int_ok lang text n is)
form_ok lang sound (initial_line port text {n = n} is d) h = (name_ok lang port h.1.0, int_ok lang text n is, lit_ok lang d h.1.1.1)
form_ok lang sound (notify_line event) h = (name_ok lang event h.1.0, time_writable lang sound 0 (omega arith))
form_ok lang sound (notify_after_line event count) h = (name_ok lang event h.1.0, time_writable lang sound count (time_below lang h.1.1.1.0.0 count h.1.1.1.0.1))
form_ok lang sound (signal_line name d) h = (name_ok lang name h.1.0, format_ok lang d h.1.1)
form_ok lang sound (de_signal_line name {a = a} d e) h = (name_ok lang name h.1.0, format_ok lang d (all_left lang a _ h.1.1), start_ok lang e (all_right lang a _ h.1.1))
form_ok lang sound (instance_line name block) h = (name_ok lang name h.1.0, name_ok lang block h.1.1.0)
form_ok lang sound (bind_line instance port target) h = (name_ok lang instance h.1.0, name_ok lang port h.1.1.1.0, name_ok lang target h.1.1.1.1.0)
form_ok lang sound (trace_line label {a = a} d) h = (path_ok lang d (all_left lang a _ h.1), name_ok lang label (all_right lang a _ h.1).0)
form_ok lang sound (assign_line name d) h = (name_ok lang name h.0, expr_ok lang d h.1.1)
form_ok lang sound (assign_item_line name {a = a} d e) h = ((name_ok lang name h.0, index_ok lang d (all_left lang a _ h.1.1)), expr_ok lang e (all_right lang a _ h.1.1).1.1)
form_ok lang sound (if_line d) h = expr_ok lang d h.1
form_ok lang sound (for_line name text {n = n} is d) h = (name_ok lang name h.1.0, int_ok lang text n is, limit_ok lang d h.1.1.1)
form_ok lang sound (set_rate_line name d) h = (name_ok lang name h.1.0, expr_ok lang d h.1.1.1)

-- the canonical tokens of each part say the same
sign_again : (g : Bool) → sign_of (sign_key g) ≡ Some g
sign_again true = refl
sign_again false = refl

quant_again : (q : Quant) → quant_of (quant_key q) ≡ Some q
quant_again Trn = refl
quant_again TrnZero = refl
quant_again Rnd = refl
quant_again RndZero = refl
quant_again RndMinInf = refl
quant_again RndInf = refl
quant_again RndConv = refl

over_again : (o : Over) → over_of (over_key o) ≡ Some o
over_again Wrap = refl
over_again Sat = refl
over_again SatZero = refl
over_again SatSym = refl

shape_again : {ts : List Tok} {s : Shape} → SpellsShape ts s → SpellsShape (shape_tokens s) s
shape_again (shape w first second {signed = g} {wl = m} {iwl = n} {quant = q} {over = o} a b c d) =
    shape (sign_key g) (decimal m) (decimal n) (sign_again g) (int_again first m b) (int_again second n c) (modes_both (quant_key q) (over_key o) (quant_again q) (over_again o))

format_again : {ts : List Tok} {x : FormatRef} → SpellsFormat ts x → SpellsFormat (format_tokens x) x
format_again (format_own d) = format_own (shape_again d)
format_again (format_named name) = format_named name

signed_again : (m : Bool) (d : List ℕ) → trimmed d ≡ d → (m ≡ true → is_nought d ≡ false) → SpellsLit (signed_tokens m d) (record { minus = m; digits = d })
signed_again false d e h = subst (λ (u : List ℕ). SpellsLit (TNumber d ∷ []) (record { minus = false; digits = u })) e (lit_plain d)
signed_again true d e h =
    subst (λ (b : Bool). SpellsLit (TSymbol symbol.Minus ∷ TNumber d ∷ []) (record { minus = not b; digits = d })) (h refl)
    (subst (λ (u : List ℕ). SpellsLit (TSymbol symbol.Minus ∷ TNumber d ∷ []) (record { minus = not (is_nought u); digits = u })) e (lit_minus d))

not_nought : (b : Bool) → not b ≡ true → b ≡ false
not_nought true h = absurd (cc)
not_nought false h = refl

lit_again : {ts : List Tok} {v : Lit} → SpellsLit ts v → SpellsLit (lit_tokens v) v
lit_again (lit_plain text) = signed_again false (trimmed text) (trimmed_twice text) (λ h. absurd (cc))
lit_again (lit_minus text) = signed_again (not (is_nought (trimmed text))) (trimmed text) (trimmed_twice text) (λ h. not_nought (is_nought (trimmed text)) h)

zero_again : SpellsLit (lit_tokens zero_lit) zero_lit
zero_again = signed_again false (codes "0") trimmed_zero (λ h. absurd (cc))

start_literal : {ts : List Tok} {v : Lit} → SpellsStart ts v → SpellsLit (lit_tokens v) v
start_literal start_none = zero_again
start_literal (start_some d) = lit_again d

lits_again : {ts : List Tok} {vs : List Lit} → SpellsLits ts vs → SpellsLits (lits_tokens vs) vs
lits_again lits_none = lits_none
lits_again (lits_more d e) = lits_more (lit_again d) (lits_again e)

limit_again : (lang : Dialect) {ts : List Tok} {l : Limit} → SpellsLimit lang.version ts l → SpellsLimit lang.version (limit_tokens l) l
limit_again lang (limit_int text {n = n} is) = limit_int (decimal n) (int_again text n is)
limit_again lang (limit_var name) = limit_var name
limit_again lang (limit_times two text name {n = n} is) = limit_times two (decimal n) name (int_again text n is)

path_more_again : (n : List ℕ) (names : List (List ℕ)) → SpellsPath (path_tokens names) names → SpellsPath (path_tokens (n ∷ names)) (n ∷ names)
path_more_again n [] d = path_one n
path_more_again n (m ∷ ms) d = path_more n d

path_again : {ts : List Tok} {names : List (List ℕ)} → SpellsPath ts names → SpellsPath (path_tokens names) names
path_again (path_one name) = path_one name
path_again (path_more name {names = names} d) = path_more_again name names (path_again d)

port_again : {w : Key} {kind : PortKind} → SpellsPort w kind → SpellsPort (port_key kind) kind
port_again port_in = port_in
port_again port_out = port_out
port_again port_de_in = port_de_in
port_again port_de_out = port_de_out

word_again : (lang : Dialect) {w : Key} {f : Form} → SpellsWord w f → SpellsLine lang.version (form_tokens f) f
word_again lang word_top = word_line key.Top word_top
word_again lang word_end = word_line key.End word_end
word_again lang word_set_attributes = word_line key.SetAttributes word_set_attributes
word_again lang word_initialize = word_line key.Initialize word_initialize
word_again lang word_processing = word_line key.Processing word_processing
word_again lang word_change_attributes = word_line key.ChangeAttributes word_change_attributes
word_again lang word_reinitialize = word_line key.Reinitialize word_reinitialize
word_again lang word_does = word_line key.DoesAttributeChanges word_does
word_again lang word_accept = word_line key.AcceptAttributeChanges word_accept
word_again lang word_reject = word_line key.RejectAttributeChanges word_reject
word_again lang word_process = word_line key.Process word_process
word_again lang word_dont_initialize = word_line key.DontInitialize word_dont_initialize
word_again lang word_else = word_line key.Else word_else

named_again : (lang : Dialect) {w : Key} {n : List ℕ} {f : Form} → SpellsNamed w n f → SpellsLine lang.version (form_tokens f) f
named_again lang (named_tdf name) = named_line key.Tdf name (named_tdf name)
named_again lang (named_de name) = named_line key.De name (named_de name)
named_again lang (named_composite name) = named_line key.Composite name (named_composite name)
named_again lang (named_event name) = named_line key.Event name (named_event name)
named_again lang (named_sensitive name) = named_line key.Sensitive name (named_sensitive name)

pub form_again : (lang : Dialect) {ts : List Tok} {f : Form} → SpellsLine lang.version ts f → SpellsLine lang.version (form_tokens f) f
form_again lang (word_line w d) = word_again lang d
form_again lang (named_line w name d) = named_again lang d
form_again lang (type_line name d) = type_line name (shape_again d)
form_again lang (port_line w name {kind = kind} d e) = port_line (port_key kind) name (port_again d) (format_again e)
form_again lang (const_line name d e) = const_line name (format_again d) (lit_again e)
form_again lang (var_line name d e) = var_line name (format_again d) (start_some (start_literal e))
form_again lang (array_line name text {n = n} d is e) = array_line name (decimal n) (format_again d) (int_again text n is) (lits_again e)
form_again lang (rate_var_line name first second third {least = l} {greatest = g} {start = s} x y z) =
    rate_var_line name (decimal l) (decimal g) (decimal s) (int_again first l x) (int_again second g y) (int_again third s z)
form_again lang (step_line count) = step_line count
form_again lang (port_step_line port count) = port_step_line port count
form_again lang (rate_line port d) = rate_line port (limit_again lang d)
form_again lang (delay_line port text {n = n} is) = delay_line port (decimal n) (int_again text n is)
form_again lang (initial_line port text {n = n} is d) = initial_line port (decimal n) (int_again text n is) (lit_again d)
form_again lang (notify_line event) = notify_after_line event 0
form_again lang (notify_after_line event count) = notify_after_line event count
form_again lang (signal_line name d) = signal_line name (format_again d)
form_again lang (de_signal_line name d e) = de_signal_line name (format_again d) (start_some (start_literal e))
form_again lang (instance_line name block) = instance_line name block
form_again lang (bind_line instance port target) = bind_line instance port target
form_again lang (trace_line label d) = trace_line label (path_again d)
form_again lang (assign_line name d) = assign_line name (expr_again lang d)
form_again lang (assign_item_line name {i = i} {e = x} d e) =
    subst (λ u. SpellsLine lang.version (TName name ∷ TSymbol symbol.OpenSquare ∷ u) (FAssign name (Some i) x))
    (sym (append_assoc (index_tokens i) (TSymbol symbol.CloseSquare ∷ []) (TSymbol symbol.Becomes ∷ expr_tokens x)))
    (assign_item_line name (index_again lang d) (expr_again lang e))
form_again lang (if_line d) = if_line (expr_again lang d)
form_again lang (for_line name text {n = n} is d) = for_line name (decimal n) (int_again text n is) (limit_again lang d)
form_again lang (set_rate_line name d) = set_rate_line name (expr_again lang d)
