-- What is spelled by the tokens of pieces is kept by the form of its line.
use Rattle.std.proofs.Common.{ℕ, List, refl, arith}
use Rattle.tdf_base.specs.declared.version.Version.{Version}
use Rattle.tdf_base.specs.Number.{is_number, numeral_of}
use Rattle.tdf_lang_exprs.proofs.Api.{int_count, lit_keeps, lits_keep, index_keeps, shape_keeps, format_keeps, path_keeps, expr_keeps}
use Rattle.tdf_lang_lines.specs.SpellsLine.{zero_lit, SpellsStart, start_none, start_some, SpellsLimit, limit_int, limit_var, limit_times, SpellsWord, word_top, word_end, word_set_attributes, word_initialize, word_processing, word_change_attributes, word_reinitialize, word_does, word_accept, word_reject, word_process, word_dont_initialize, word_else, SpellsNamed, named_tdf, named_de, named_composite, named_event, named_sensitive, SpellsLine, word_line, named_line, type_line, port_line, const_line, var_line, array_line, rate_var_line, step_line, port_step_line, rate_line, delay_line, initial_line, notify_line, notify_after_line, signal_line, de_signal_line, instance_line, bind_line, trace_line, assign_line, assign_item_line, if_line, for_line, set_rate_line}
use Rattle.tdf_lang_lexer.proofs.Api.{KeepTokens, keep_split}
use Rattle.tdf_lang_lexer.specs.Token.{Tok}
use Rattle.tdf_lang_lexer.specs.declared.key.Key.{Key}
use Rattle.tdf_lang_tree.specs.Forms.{Form, FType, FTdf, FDe, FComposite, FPort, FConst, FVar, FArray, FRateVar, FStep, FRate, FDelay, FInitial, FEvent, FSensitive, FNotify, FSignal, FDeSignal, FInstance, FBind, FTrace, FAssign, FIf, FFor, FSetRate}
use Rattle.tdf_lang_tree.specs.Kept.{Each, IsName, IsCount, KeepsLit, KeepsShape, KeepsFormat, KeepsLimit, KeepsItem, KeepsPort, KeepsExpr}
use Rattle.tdf_lang_tree.specs.declared.names.Lit.{Lit}
use Rattle.tdf_lang_tree.specs.declared.stmt.Limit.{Limit}

-- what the form of a line keeps
abbrev pub KeepsForm : Form → Type 0
KeepsForm (FType name s) = IsName name × KeepsShape s
KeepsForm (FTdf name) = IsName name
KeepsForm (FDe name) = IsName name
KeepsForm (FComposite name) = IsName name
KeepsForm (FPort kind name x) = IsName name × KeepsFormat x
KeepsForm (FConst name x v) = IsName name × KeepsFormat x × KeepsLit v
KeepsForm (FVar name x v) = IsName name × KeepsFormat x × KeepsLit v
KeepsForm (FArray name x size vs) = IsName name × KeepsFormat x × IsCount size × Each KeepsLit vs
KeepsForm (FRateVar name least greatest start) = IsName name × IsCount least × IsCount greatest × IsCount start
KeepsForm (FStep port step) = KeepsPort port × IsCount step
KeepsForm (FRate port l) = IsName port × KeepsLimit l
KeepsForm (FDelay port count) = IsName port × IsCount count
KeepsForm (FInitial port place v) = IsName port × IsCount place × KeepsLit v
KeepsForm (FEvent name) = IsName name
KeepsForm (FSensitive name) = IsName name
KeepsForm (FNotify event after) = IsName event × IsCount after
KeepsForm (FSignal name x) = IsName name × KeepsFormat x
KeepsForm (FDeSignal name x v) = IsName name × KeepsFormat x × KeepsLit v
KeepsForm (FInstance name block) = IsName name × IsName block
KeepsForm (FBind instance port target) = IsName instance × IsName port × IsName target
KeepsForm (FTrace path label) = Each IsName path × IsName label
KeepsForm (FAssign name i x) = IsName name × KeepsItem i × KeepsExpr x
KeepsForm (FIf x) = KeepsExpr x
KeepsForm (FFor name from l) = IsName name × IsCount from × KeepsLimit l
KeepsForm (FSetRate name x) = IsName name × KeepsExpr x
KeepsForm _ = Unit {0}

zero_keeps : KeepsLit zero_lit
unfolding is_number numeral_of
zero_keeps = refl

zero_count : IsCount 0
zero_count = omega arith

start_keeps : {ts : List Tok} {x : Lit} → SpellsStart ts x → KeepTokens ts → KeepsLit x
start_keeps start_none h = zero_keeps
start_keeps (start_some d) h = lit_keeps d h

limit_keeps : {v : Version} {ts : List Tok} {l : Limit} → SpellsLimit v ts l → KeepTokens ts → KeepsLimit l
limit_keeps (limit_int text {n = n} e) h = int_count text n e
limit_keeps (limit_var name) h = h.0
limit_keeps (limit_times some text name {n = n} e) h = (int_count text n e, h.1.1.0)

word_keeps : {word : Key} {f : Form} → SpellsWord word f → KeepsForm f
word_keeps word_top = tt
word_keeps word_end = tt
word_keeps word_set_attributes = tt
word_keeps word_initialize = tt
word_keeps word_processing = tt
word_keeps word_change_attributes = tt
word_keeps word_reinitialize = tt
word_keeps word_does = tt
word_keeps word_accept = tt
word_keeps word_reject = tt
word_keeps word_process = tt
word_keeps word_dont_initialize = tt
word_keeps word_else = tt

named_keeps : {word : Key} {name : List ℕ} {f : Form} → SpellsNamed word name f → IsName name → KeepsForm f
named_keeps (named_tdf name) h = h
named_keeps (named_de name) h = h
named_keeps (named_composite name) h = h
named_keeps (named_event name) h = h
named_keeps (named_sensitive name) h = h

pub line_keeps : {v : Version} {ts : List Tok} {f : Form} → SpellsLine v ts f → KeepTokens ts → KeepsForm f
line_keeps (word_line word d) h = word_keeps d
line_keeps (named_line word name d) h = named_keeps d h.1.0
line_keeps (type_line name d) h = (h.1.0, shape_keeps d)
line_keeps (port_line word name d e) h = (h.1.0, format_keeps e h.1.1)
line_keeps (const_line name {a = a} {b = b} d e) h = let s = keep_split a b h.1.1 in (h.1.0, format_keeps d s.0, lit_keeps e s.1)
line_keeps (var_line name {a = a} {b = b} d e) h = let s = keep_split a b h.1.1 in (h.1.0, format_keeps d s.0, start_keeps e s.1)
line_keeps (array_line name text {a = a} {n = n} d e g) h =
    let s = keep_split a _ h.1.1 in (h.1.0, format_keeps d s.0, int_count text n e, lits_keep g s.1.1)
line_keeps (rate_var_line name first second third {least = l} {greatest = m} {start = n} c d e) h =
    (h.1.0, int_count first l c, int_count second m d, int_count third n e)
line_keeps (step_line count) h = (tt, h.1.0)
line_keeps (port_step_line port count) h = (h.1.0, h.1.1.0)
line_keeps (rate_line port d) h = (h.1.0, limit_keeps d h.1.1)
line_keeps (delay_line port text {n = n} e) h = (h.1.0, int_count text n e)
line_keeps (initial_line port text {n = n} e d) h = (h.1.0, int_count text n e, lit_keeps d h.1.1.1)
line_keeps (notify_line event) h = (h.1.0, zero_count)
line_keeps (notify_after_line event count) h = (h.1.0, h.1.1.1.0)
line_keeps (signal_line name d) h = (h.1.0, format_keeps d h.1.1)
line_keeps (de_signal_line name {a = a} {b = b} d e) h = let s = keep_split a b h.1.1 in (h.1.0, format_keeps d s.0, start_keeps e s.1)
line_keeps (instance_line name block) h = (h.1.0, h.1.1.0)
line_keeps (bind_line instance port target) h = (h.1.0, h.1.1.1.0, h.1.1.1.1.0)
line_keeps (trace_line label {a = a} d) h = let s = keep_split a _ h.1 in (path_keeps d s.0, s.1.0)
line_keeps (assign_line name d) h = (h.0, tt, expr_keeps d h.1.1)
line_keeps (assign_item_line name {a = a} d e) h = let s = keep_split a _ h.1.1 in (h.0, index_keeps d s.0, expr_keeps e s.1.1.1)
line_keeps (if_line d) h = expr_keeps d h.1
line_keeps (for_line name text {n = n} e d) h = (h.1.0, int_count text n e, limit_keeps d h.1.1.1)
line_keeps (set_rate_line name d) h = (h.1.0, expr_keeps d h.1.1.1)
