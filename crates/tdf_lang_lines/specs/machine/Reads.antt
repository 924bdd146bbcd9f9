-- How a line is read (own): the form that its tokens are, token by token, in version v. Private functions' clauses cite it; `proofs/`
-- show that it reads exactly what `SpellsLine` says.
use Rattle.std.specs.Prelude.{ℕ, ◌-◌, Bool, true, false, cond, List, [], ◌∷◌, length, take, drop, Option, Some, None, option_map}
use Rattle.tdf_base.specs.Version.{has_multiples}
use Rattle.tdf_base.specs.declared.version.Version.{Version}
use Rattle.tdf_lang_lexer.specs.Token.{Tok, TName, TKey, TNumber, TTime, TSymbol}
use Rattle.tdf_lang_lexer.specs.declared.key.Key.{Key}
use Rattle.tdf_lang_lexer.specs.declared.key.Key.TheVariants as key
use Rattle.tdf_lang_lexer.specs.declared.key.Symbol.{Symbol}
use Rattle.tdf_lang_lexer.specs.declared.key.Symbol.TheVariants as symbol
use Rattle.tdf_lang_tree.specs.declared.blocks.PortKind.TheVariants as port_kind
use Rattle.tdf_lang_tree.specs.declared.expr.Index.{Index}
use Rattle.tdf_lang_tree.specs.declared.names.Lit.{Lit}
use Rattle.tdf_lang_tree.specs.declared.shapes.FormatRef.{FormatRef}
use Rattle.tdf_lang_tree.specs.declared.stmt.Limit.{Limit}
use Rattle.tdf_lang_tree.specs.declared.stmt.Limit.TheVariants as limit
use Rattle.tdf_lang_exprs.specs.machine.Formats.{shape_of, format_of, format_len}
use Rattle.tdf_lang_exprs.specs.machine.Literals.{lit_of, lits_of}
use Rattle.tdf_lang_exprs.specs.machine.Exprs.{expr_of}
use Rattle.tdf_lang_exprs.specs.machine.Indices.{index_of}
use Rattle.tdf_base.specs.Digits.{int_of}
use Rattle.tdf_lang_exprs.specs.machine.Paths.{path_of}
use Rattle.tdf_lang_tree.specs.Forms.{Form, FType, FTdf, FDe, FComposite, FTop, FEnd, FPort, FConst, FVar, FArray, FRateVar, FSetAttributes, FInitialize, FProcessing, FChangeAttributes, FReinitialize, FStep, FRate, FDelay, FDoes, FAccept, FReject, FInitial, FEvent, FProcess, FSensitive, FDontInitialize, FNotify, FSignal, FDeSignal, FInstance, FBind, FTrace, FAssign, FIf, FElse, FFor, FSetRate}
use Rattle.tdf_lang_lines.specs.SpellsLine.{zero_lit}

-- a form of two parts, and of three
abbrev pub both_of : {A B : Type 0} → (A → B → Form) → Option A → Option B → Option Form
both_of make (Some a) (Some b) = Some (make a b)
both_of make None b = None
both_of make (Some a) None = None

abbrev pub three_of : {A B C : Type 0} → (A → B → C → Form) → Option A → Option B → Option C → Option Form
three_of make (Some a) b c = both_of (make a) b c
three_of make None b c = None

-- nothing follows
abbrev pub nothing_after : Form → List Tok → Option Form
nothing_after f [] = Some f
nothing_after f _ = None

-- after `NUMBER *`
abbrev pub name_limit : Version → Option ℕ → List Tok → Option Limit
name_limit v first (TName name ∷ []) = cond (has_multiples v) (option_map (λ n. limit.Times n name) first) None
name_limit v first _ = None

-- after `NUMBER SYMBOL`
abbrev pub times_limit : Version → Symbol → Option ℕ → List Tok → Option Limit
times_limit v symbol.Times first ts = name_limit v first ts
times_limit v _ first ts = None

-- after `NUMBER`
abbrev pub number_limit : Version → Option ℕ → List Tok → Option Limit
number_limit v first [] = option_map limit.Int first
number_limit v first (TSymbol c ∷ ts) = times_limit v c first ts
number_limit v first _ = None

-- after `NAME`
abbrev pub var_limit : List ℕ → List Tok → Option Limit
var_limit name [] = Some (limit.Var name)
var_limit name _ = None

abbrev pub limit_of : Version → List Tok → Option Limit
limit_of v (TNumber text ∷ ts) = number_limit v (int_of text) ts
limit_of v (TName name ∷ ts) = var_limit name ts
limit_of v _ = None

abbrev pub start_of : List Tok → Option Lit
start_of [] = Some zero_lit
start_of (t ∷ ts) = lit_of (t ∷ ts)

abbrev pub word_form : Key → Option Form
word_form key.Top = Some FTop
word_form key.End = Some FEnd
word_form key.SetAttributes = Some FSetAttributes
word_form key.Initialize = Some FInitialize
word_form key.Processing = Some FProcessing
word_form key.ChangeAttributes = Some FChangeAttributes
word_form key.Reinitialize = Some FReinitialize
word_form key.DoesAttributeChanges = Some FDoes
word_form key.AcceptAttributeChanges = Some FAccept
word_form key.RejectAttributeChanges = Some FReject
word_form key.Process = Some FProcess
word_form key.DontInitialize = Some FDontInitialize
word_form key.Else = Some FElse
word_form _ = None

abbrev pub named_step_form : List ℕ → List Tok → Option Form
named_step_form port (TTime count ∷ []) = Some (FStep (Some port) count)
named_step_form port _ = None

abbrev pub step_form : List Tok → Option Form
step_form (TTime count ∷ []) = Some (FStep None count)
step_form (TName port ∷ ts) = named_step_form port ts
step_form _ = None

abbrev pub trace_end : Option (List (List ℕ)) → List Tok → Option Form
trace_end path (TName label ∷ []) = option_map (λ p. FTrace p label) path
trace_end path _ = None

abbrev pub trace_form : List Tok → Option Form
trace_form ts = trace_end (path_of (take (length ts - 1) ts)) (drop (length ts - 1) ts)

abbrev pub array_rest : List ℕ → Option FormatRef → List Tok → Option Form
array_rest name x (TNumber text ∷ ts) = three_of (FArray name) x (int_of text) (lits_of ts)
array_rest name x _ = None

abbrev pub third_rate : List ℕ → Option ℕ → Option ℕ → List Tok → Option Form
third_rate name first second (TNumber text ∷ []) = three_of (FRateVar name) first second (int_of text)
third_rate name first second _ = None

-- after `rate NAME NUMBER SYMBOL`
unfoldable pub times_rate : Version → Symbol → List ℕ → Option ℕ → List Tok → Option Form
times_rate v c name first ts = option_map (FRate name) (times_limit v c first ts)

-- after `rate NAME NUMBER`
abbrev pub second_rate : Version → List ℕ → Option ℕ → List Tok → Option Form
second_rate v name first [] = option_map (λ n. FRate name (limit.Int n)) first
second_rate v name first (TNumber text ∷ ts) = third_rate name first (int_of text) ts
second_rate v name first (TSymbol c ∷ ts) = times_rate v c name first ts
second_rate v name first _ = None

-- after `rate NAME SYMBOL`
abbrev pub rate_symbol : Version → Symbol → List ℕ → List Tok → Option Form
rate_symbol v symbol.Becomes name ts = option_map (FSetRate name) (expr_of v ts)
rate_symbol v _ name ts = None

abbrev pub rate_form : Version → List ℕ → List Tok → Option Form
rate_form v name (TNumber text ∷ ts) = second_rate v name (int_of text) ts
rate_form v name (TName rate ∷ ts) = nothing_after (FRate name (limit.Var rate)) ts
rate_form v name (TSymbol c ∷ ts) = rate_symbol v c name ts
rate_form v name _ = None

abbrev pub delay_form : List ℕ → List Tok → Option Form
delay_form port (TNumber text ∷ []) = option_map (FDelay port) (int_of text)
delay_form port _ = None

-- after `initial NAME NUMBER`
abbrev pub initial_value : List ℕ → Option ℕ → List Tok → Option Form
initial_value port None ts = None
initial_value port (Some n) ts = option_map (FInitial port n) (lit_of ts)

abbrev pub initial_form : List ℕ → List Tok → Option Form
initial_form port (TNumber text ∷ ts) = initial_value port (int_of text) ts
initial_form port _ = None

abbrev pub after_form : List ℕ → List Tok → Option Form
after_form event (TTime count ∷ []) = Some (FNotify event count)
after_form event _ = None

abbrev pub notify_form : List ℕ → List Tok → Option Form
notify_form event [] = Some (FNotify event 0)
notify_form event (TKey key.After ∷ ts) = after_form event ts
notify_form event _ = None

abbrev pub instance_form : List ℕ → List Tok → Option Form
instance_form name (TName block ∷ []) = Some (FInstance name block)
instance_form name _ = None

abbrev pub bind_target : List ℕ → List ℕ → List Tok → Option Form
bind_target instance port (TName target ∷ []) = Some (FBind instance port target)
bind_target instance port _ = None

abbrev pub bind_port : List ℕ → List Tok → Option Form
bind_port instance (TName port ∷ ts) = bind_target instance port ts
bind_port instance _ = None

abbrev pub bind_form : List ℕ → List Tok → Option Form
bind_form instance (TSymbol symbol.Point ∷ ts) = bind_port instance ts
bind_form instance _ = None

-- after `for NAME NUMBER`
abbrev pub for_limit : Version → List ℕ → Option ℕ → List Tok → Option Form
for_limit v name None ts = None
for_limit v name (Some n) ts = option_map (FFor name n) (limit_of v ts)

abbrev pub for_form : Version → List ℕ → List Tok → Option Form
for_form v name (TNumber text ∷ ts) = for_limit v name (int_of text) ts
for_form v name _ = None

abbrev pub cut_first : List Tok → Option FormatRef
cut_first ts = format_of (take (format_len ts) ts)

abbrev pub cut_rest : List Tok → List Tok
cut_rest ts = drop (format_len ts) ts

-- after a reserved word and a name
abbrev pub key_name_form : Version → Key → List ℕ → List Tok → Option Form
key_name_form v key.Tdf name ts = nothing_after (FTdf name) ts
key_name_form v key.De name ts = nothing_after (FDe name) ts
key_name_form v key.Composite name ts = nothing_after (FComposite name) ts
key_name_form v key.Event name ts = nothing_after (FEvent name) ts
key_name_form v key.Sensitive name ts = nothing_after (FSensitive name) ts
key_name_form v key.Type name ts = option_map (FType name) (shape_of ts)
key_name_form v key.In name ts = option_map (FPort port_kind.In name) (format_of ts)
key_name_form v key.Out name ts = option_map (FPort port_kind.Out name) (format_of ts)
key_name_form v key.DeIn name ts = option_map (FPort port_kind.DeIn name) (format_of ts)
key_name_form v key.DeOut name ts = option_map (FPort port_kind.DeOut name) (format_of ts)
key_name_form v key.Signal name ts = option_map (FSignal name) (format_of ts)
key_name_form v key.Const name ts = both_of (FConst name) (cut_first ts) (lit_of (cut_rest ts))
key_name_form v key.Var name ts = both_of (FVar name) (cut_first ts) (start_of (cut_rest ts))
key_name_form v key.DeSignal name ts = both_of (FDeSignal name) (cut_first ts) (start_of (cut_rest ts))
key_name_form v key.Array name ts = array_rest name (cut_first ts) (cut_rest ts)
key_name_form v key.Rate name ts = rate_form v name ts
key_name_form v key.Delay name ts = delay_form name ts
key_name_form v key.Initial name ts = initial_form name ts
key_name_form v key.Notify name ts = notify_form name ts
key_name_form v key.Instance name ts = instance_form name ts
key_name_form v key.Bind name ts = bind_form name ts
key_name_form v key.For name ts = for_form v name ts
key_name_form v _ name ts = None

-- after a reserved word
abbrev pub rest_form : Version → Key → List Tok → Option Form
rest_form v word [] = word_form word
rest_form v word (TName name ∷ ts) = key_name_form v word name ts
rest_form v word _ = None

abbrev pub key_form : Version → Key → List Tok → Option Form
key_form v key.If ts = option_map FIf (expr_of v ts)
key_form v key.Trace ts = trace_form ts
key_form v key.Timestep ts = step_form ts
key_form v word ts = rest_form v word ts

abbrev pub is_close : Tok → Bool
is_close (TSymbol symbol.CloseSquare) = true
is_close _ = false

-- how many tokens an index that comes first has: it ends before `]`
abbrev pub index_len_more : List Tok → ℕ
index_len_more (t ∷ (u ∷ ts)) = cond (is_close u) 3 5
index_len_more _ = 3

abbrev pub index_len : List Tok → ℕ
index_len (t ∷ (u ∷ ts)) = cond (is_close u) 1 (index_len_more ts)
index_len _ = 0

abbrev pub item_value : Version → List ℕ → Option Index → List Tok → Option Form
item_value v name i (TSymbol symbol.Becomes ∷ ts) = both_of (λ j e. FAssign name (Some j) e) i (expr_of v ts)
item_value v name i _ = None

abbrev pub item_close : Version → List ℕ → Option Index → List Tok → Option Form
item_close v name i (TSymbol symbol.CloseSquare ∷ ts) = item_value v name i ts
item_close v name i _ = None

-- after a name
abbrev pub name_symbol : Version → Symbol → List ℕ → List Tok → Option Form
name_symbol v symbol.Becomes name ts = option_map (FAssign name None) (expr_of v ts)
name_symbol v symbol.OpenSquare name ts = item_close v name (index_of v (take (index_len ts) ts)) (drop (index_len ts) ts)
name_symbol v _ name ts = None

abbrev pub name_form : Version → List ℕ → List Tok → Option Form
name_form v name (TSymbol c ∷ ts) = name_symbol v c name ts
name_form v name _ = None

-- the form of a line
unfoldable pub form_of : Version → List Tok → Option Form
form_of v (TKey word ∷ ts) = key_form v word ts
form_of v (TName name ∷ ts) = name_form v name ts
form_of v _ = None
