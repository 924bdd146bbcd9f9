-- A line form has a kind, and a line of a kind is a line form.
use Rattle.std.proofs.Common.{◌≡◌, ℕ, List, refl, subst}
use Rattle.tdf_base.specs.declared.version.Version.{Version}
use Rattle.tdf_lang_exprs.proofs.Api.{lit_fits, fits_lit, lits_fit, fits_lits, index_fits, fits_index, shape_fits, fits_the_shape, format_fits, fits_format, path_fits, fits_path, expr_fits, fits_expr}
use Rattle.tdf_lang_lines.specs.FitsLine.{FitsStart, fits_start_none, fits_start_some, FitsLimit, fits_limit_int, fits_limit_var, fits_limit_times, FitsWord, fits_top, fits_end, fits_set_attributes, fits_initialize, fits_processing, fits_change_attributes, fits_reinitialize, fits_does, fits_accept, fits_reject, fits_process, fits_dont_initialize, fits_else, FitsNamed, fits_tdf, fits_de, fits_composite, fits_event, fits_sensitive, FitsLine, fits_word_line, fits_named_line, fits_type, fits_port, fits_const, fits_var, fits_array, fits_rate_var, fits_step, fits_port_step, fits_rate, fits_delay, fits_initial, fits_notify, fits_notify_after, fits_signal, fits_de_signal, fits_instance, fits_bind, fits_trace, fits_assign, fits_assign_item, fits_if, fits_for, fits_set_rate}
use Rattle.tdf_lang_lines.specs.Laws.{LinesHaveKinds}
use Rattle.tdf_lang_lines.specs.SpellsLine.{SpellsLine, word_line, named_line, type_line, port_line, const_line, var_line, array_line, rate_var_line, step_line, port_step_line, rate_line, delay_line, initial_line, notify_line, notify_after_line, signal_line, de_signal_line, instance_line, bind_line, trace_line, assign_line, assign_item_line, if_line, for_line, set_rate_line, SpellsWord, word_top, word_end, word_set_attributes, word_initialize, word_processing, word_change_attributes, word_reinitialize, word_does, word_accept, word_reject, word_process, word_dont_initialize, word_else, SpellsNamed, named_tdf, named_de, named_composite, named_event, named_sensitive, SpellsLimit, limit_int, limit_var, limit_times, SpellsStart, start_none, start_some}
use Rattle.tdf_lang_lexer.specs.Token.{Tok}
use Rattle.tdf_lang_lexer.specs.declared.key.Key.{Key}
use Rattle.tdf_lang_tree.specs.Forms.{Form}
use Rattle.tdf_lang_tree.specs.Kinds.{Kind, kind_of_form}
use Rattle.tdf_lang_tree.specs.declared.names.Lit.{Lit}
use Rattle.tdf_lang_tree.specs.declared.stmt.Limit.{Limit}

start_fits : {ts : List Tok} {x : Lit} → SpellsStart ts x → FitsStart ts
start_fits start_none = fits_start_none
start_fits (start_some d) = fits_start_some (lit_fits d)

fits_start : {ts : List Tok} → FitsStart ts → (x : Lit) × SpellsStart ts x
fits_start fits_start_none = (_, start_none)
fits_start (fits_start_some d) = let x = fits_lit d in (x.0, start_some x.1)

limit_fits : {v : Version} {ts : List Tok} {l : Limit} → SpellsLimit v ts l → FitsLimit v ts
limit_fits (limit_int text {n = n} e) = fits_limit_int text (n, e)
limit_fits (limit_var name) = fits_limit_var name
limit_fits (limit_times h text name {n = n} e) = fits_limit_times h text name (n, e)

fits_limit : {v : Version} {ts : List Tok} → FitsLimit v ts → (l : Limit) × SpellsLimit v ts l
fits_limit (fits_limit_int text e) = (_, limit_int text e.1)
fits_limit (fits_limit_var name) = (_, limit_var name)
fits_limit (fits_limit_times h text name e) = (_, limit_times h text name e.1)

word_fits : {word : Key} {f : Form} → SpellsWord word f → FitsWord word (kind_of_form f)
word_fits word_top = fits_top
word_fits word_end = fits_end
word_fits word_set_attributes = fits_set_attributes
word_fits word_initialize = fits_initialize
word_fits word_processing = fits_processing
word_fits word_change_attributes = fits_change_attributes
word_fits word_reinitialize = fits_reinitialize
word_fits word_does = fits_does
word_fits word_accept = fits_accept
word_fits word_reject = fits_reject
word_fits word_process = fits_process
word_fits word_dont_initialize = fits_dont_initialize
word_fits word_else = fits_else

-- a line of a kind, with what it says
record Says (v : Version) (ts : List Tok) (k : Kind) : Type 0 where
  form : Form
  line : SpellsLine v ts form
  kind : kind_of_form form ≡ k

fits_word : {word : Key} {k : Kind} → FitsWord word k → (f : Form) × SpellsWord word f × (kind_of_form f ≡ k)
fits_word fits_top = (_, word_top, refl)
fits_word fits_end = (_, word_end, refl)
fits_word fits_set_attributes = (_, word_set_attributes, refl)
fits_word fits_initialize = (_, word_initialize, refl)
fits_word fits_processing = (_, word_processing, refl)
fits_word fits_change_attributes = (_, word_change_attributes, refl)
fits_word fits_reinitialize = (_, word_reinitialize, refl)
fits_word fits_does = (_, word_does, refl)
fits_word fits_accept = (_, word_accept, refl)
fits_word fits_reject = (_, word_reject, refl)
fits_word fits_process = (_, word_process, refl)
fits_word fits_dont_initialize = (_, word_dont_initialize, refl)
fits_word fits_else = (_, word_else, refl)

named_fits : {word : Key} {name : List ℕ} {f : Form} → SpellsNamed word name f → FitsNamed word (kind_of_form f)
named_fits (named_tdf name) = fits_tdf
named_fits (named_de name) = fits_de
named_fits (named_composite name) = fits_composite
named_fits (named_event name) = fits_event
named_fits (named_sensitive name) = fits_sensitive

fits_named : {word : Key} {k : Kind} → FitsNamed word k → (name : List ℕ) → (f : Form) × SpellsNamed word name f × (kind_of_form f ≡ k)
fits_named fits_tdf name = (_, named_tdf name, refl)
fits_named fits_de name = (_, named_de name, refl)
fits_named fits_composite name = (_, named_composite name, refl)
fits_named fits_event name = (_, named_event name, refl)
fits_named fits_sensitive name = (_, named_sensitive name, refl)

pub line_fits : {v : Version} {ts : List Tok} {f : Form} → SpellsLine v ts f → FitsLine v ts (kind_of_form f)
line_fits (word_line word w) = fits_word_line word (word_fits w)
line_fits (named_line word name w) = fits_named_line word name (named_fits w)
line_fits (type_line name d) = fits_type name (shape_fits d)
line_fits (port_line word name p d) = fits_port word name p (format_fits d)
line_fits (const_line name d e) = fits_const name (format_fits d) (lit_fits e)
line_fits (var_line name d e) = fits_var name (format_fits d) (start_fits e)
line_fits (array_line name text {n = n} d e f) = fits_array name text (format_fits d) (n, e) (lits_fit f)
line_fits (rate_var_line name first second third {least = a} {greatest = b} {start = c} e f g) = fits_rate_var name first second third (a, e) (b, f) (c, g)
line_fits (step_line count) = fits_step count
line_fits (port_step_line port count) = fits_port_step port count
line_fits (rate_line port d) = fits_rate port (limit_fits d)
line_fits (delay_line port text {n = n} e) = fits_delay port text (n, e)
line_fits (initial_line port text {n = n} e d) = fits_initial port text (n, e) (lit_fits d)
line_fits (notify_line event) = fits_notify event
line_fits (notify_after_line event count) = fits_notify_after event count
line_fits (signal_line name d) = fits_signal name (format_fits d)
line_fits (de_signal_line name d e) = fits_de_signal name (format_fits d) (start_fits e)
line_fits (instance_line name block) = fits_instance name block
line_fits (bind_line instance port target) = fits_bind instance port target
line_fits (trace_line label d) = fits_trace label (path_fits d)
line_fits (assign_line name d) = fits_assign name (expr_fits d)
line_fits (assign_item_line name d e) = fits_assign_item name (index_fits d) (expr_fits e)
line_fits (if_line d) = fits_if (expr_fits d)
line_fits (for_line name text {n = n} e d) = fits_for name text (n, e) (limit_fits d)
line_fits (set_rate_line name d) = fits_set_rate name (expr_fits d)

says : {v : Version} {ts : List Tok} {f : Form} → SpellsLine v ts f → Says v ts (kind_of_form f)
says {f = f} d = record { form = f; line = d; kind = refl }

fits_line : {v : Version} {ts : List Tok} {k : Kind} → FitsLine v ts k → Says v ts k
fits_line (fits_word_line word w) = let x = fits_word w in record { form = x.0; line = word_line word x.1; kind = x.2 }
fits_line (fits_named_line word name w) = let x = fits_named w name in record { form = x.0; line = named_line word name x.1; kind = x.2 }
fits_line (fits_type name d) = let x = fits_the_shape d in says (type_line name x.1)
fits_line (fits_port word name p d) = let x = fits_format d in says (port_line word name p x.1)
fits_line (fits_const name d e) = let x = fits_format d in let y = fits_lit e in says (const_line name x.1 y.1)
fits_line (fits_var name d e) = let x = fits_format d in let y = fits_start e in says (var_line name x.1 y.1)
fits_line (fits_array name text d e f) = let x = fits_format d in let y = fits_lits f in says (array_line name text x.1 e.1 y.1)
fits_line (fits_rate_var name first second third e f g) = says (rate_var_line name first second third e.1 f.1 g.1)
fits_line (fits_step count) = says (step_line count)
fits_line (fits_port_step port count) = says (port_step_line port count)
fits_line (fits_rate port d) = let x = fits_limit d in says (rate_line port x.1)
fits_line (fits_delay port text e) = says (delay_line port text e.1)
fits_line (fits_initial port text e d) = let x = fits_lit d in says (initial_line port text e.1 x.1)
fits_line (fits_notify event) = says (notify_line event)
fits_line (fits_notify_after event count) = says (notify_after_line event count)
fits_line (fits_signal name d) = let x = fits_format d in says (signal_line name x.1)
fits_line (fits_de_signal name d e) = let x = fits_format d in let y = fits_start e in says (de_signal_line name x.1 y.1)
fits_line (fits_instance name block) = says (instance_line name block)
fits_line (fits_bind instance port target) = says (bind_line instance port target)
fits_line (fits_trace label d) = let x = fits_path d in says (trace_line label x.1)
fits_line (fits_assign name d) = let x = fits_expr d in says (assign_line name x.1)
fits_line (fits_assign_item name d e) = let x = fits_index d in let y = fits_expr e in says (assign_item_line name x.1 y.1)
fits_line (fits_if d) = let x = fits_expr d in says (if_line x.1)
fits_line (fits_for name text e d) = let x = fits_limit d in says (for_line name text e.1 x.1)
fits_line (fits_set_rate name d) = let x = fits_expr d in says (set_rate_line name x.1)

pub line_of_kind : {v : Version} {ts : List Tok} {k : Kind} → FitsLine v ts k → (f : Form) × SpellsLine v ts f × (kind_of_form f ≡ k)
line_of_kind d = let x = fits_line d in (x.form, x.line, x.kind)

pub kinds : LinesHaveKinds
kinds v ts k = (λ d. subst (FitsLine v ts) d.2 (line_fits d.1), λ d. line_of_kind d)
