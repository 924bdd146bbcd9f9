-- What is read is meant: the form that is read from tokens is what they mean.
use Rattle.std.proofs.Common.{◌≡◌, ℕ, ◌-◌, Bool, true, false, cond, List, [], ◌∷◌, ◌++◌, length, take, drop, Option, Some, None, refl, subst}
use Rattle.std.specs.Prelude.{option_map}
use Rattle.std.proofs.lemmas.List.{take-append-drop}
use Rattle.tdf_base.specs.Version.{has_multiples}
use Rattle.tdf_base.specs.declared.version.Version.{Version}
use Rattle.tdf_lang_lexer.specs.Token.{Tok, TName, TKey, TNumber, TTime, TSymbol}
use Rattle.tdf_lang_lexer.specs.declared.key.Key.{Key}
use Rattle.tdf_lang_lexer.specs.declared.key.Key.TheVariants as key
use Rattle.tdf_lang_lexer.specs.declared.key.Symbol.{Symbol}
use Rattle.tdf_lang_lexer.specs.declared.key.Symbol.TheVariants as symbol
use Rattle.tdf_lang_tree.specs.declared.blocks.PortKind.{PortKind}
use Rattle.tdf_lang_tree.specs.declared.names.Lit.{Lit}
use Rattle.tdf_lang_tree.specs.declared.stmt.Limit.{Limit}
use Rattle.tdf_lang_tree.specs.declared.stmt.Limit.TheVariants as limit
use Rattle.tdf_lang_exprs.proofs.Api.{lit_says, lits_says, path_says, shape_says, format_says, index_says, expr_says}
use Rattle.tdf_lang_exprs.specs.machine.Formats.{format_of, format_len, shape_of}
use Rattle.tdf_lang_exprs.specs.machine.Literals.{lit_of, lits_of}
use Rattle.tdf_lang_exprs.specs.machine.Exprs.{expr_of}
use Rattle.tdf_lang_exprs.specs.machine.Indices.{index_of}
use Rattle.tdf_base.specs.Digits.{int_of}
use Rattle.tdf_lang_exprs.specs.machine.Paths.{path_of}
use Rattle.tdf_lang_tree.specs.Forms.{Form, FType, FTdf, FDe, FComposite, FTop, FEnd, FPort, FConst, FVar, FArray, FRateVar, FSetAttributes, FInitialize, FProcessing, FChangeAttributes, FReinitialize, FStep, FRate, FDelay, FDoes, FAccept, FReject, FInitial, FEvent, FProcess, FSensitive, FDontInitialize, FNotify, FSignal, FDeSignal, FInstance, FBind, FTrace, FAssign, FIf, FElse, FFor, FSetRate}
use Rattle.tdf_lang_lines.specs.SpellsLine.{SpellsLine, word_line, named_line, type_line, port_line, const_line, var_line, array_line, rate_var_line, step_line, port_step_line, rate_line, delay_line, initial_line, notify_line, notify_after_line, signal_line, de_signal_line, instance_line, bind_line, trace_line, assign_line, assign_item_line, if_line, for_line, set_rate_line, zero_lit, SpellsWord, word_top, word_end, word_set_attributes, word_initialize, word_processing, word_change_attributes, word_reinitialize, word_does, word_accept, word_reject, word_process, word_dont_initialize, word_else, SpellsNamed, named_tdf, named_de, named_composite, named_event, named_sensitive, SpellsPort, port_in, port_out, port_de_in, port_de_out, SpellsLimit, limit_int, limit_var, limit_times, SpellsStart, start_none, start_some}
use Rattle.tdf_lang_lines.specs.machine.Reads.{form_of, both_of, three_of, nothing_after, limit_of, number_limit, times_limit, times_rate, name_limit, var_limit, start_of, word_form, named_step_form, step_form, trace_end, trace_form, array_rest, third_rate, second_rate, rate_symbol, rate_form, delay_form, initial_form, initial_value, after_form, notify_form, instance_form, bind_target, bind_port, bind_form, for_form, for_limit, cut_first, cut_rest, key_name_form, rest_form, key_form, index_len, item_value, item_close, name_symbol, name_form}

-- the parts of a form that was read
record Mapped {A : Type 0} (make : A → Form) (o : Option A) (f : Form) : Type 0 where
  item : A
  was : o ≡ Some item
  made : make item ≡ f

mapped : {A : Type 0} (make : A → Form) (o : Option A) (f : Form) → option_map make o ≡ Some f → Mapped make o f
mapped make None f h = absurd cc
mapped make (Some a) f h = let e : make a ≡ f = cc in record { item = a; was = refl; made = e }

record Both {A B : Type 0} (make : A → B → Form) (a : Option A) (b : Option B) (f : Form) : Type 0 where
  first : A
  second : B
  first_was : a ≡ Some first
  second_was : b ≡ Some second
  made : make first second ≡ f

both_were : {A B : Type 0} (make : A → B → Form) (a : Option A) (b : Option B) (f : Form) → both_of make a b ≡ Some f → Both make a b f
both_were make None b f h = absurd cc
both_were make (Some x) None f h = absurd cc
both_were make (Some x) (Some y) f h = let e : make x y ≡ f = cc in record { first = x; second = y; first_was = refl; second_was = refl; made = e }

record Three {A B C : Type 0} (make : A → B → C → Form) (a : Option A) (b : Option B) (c : Option C) (f : Form) : Type 0 where
  first : A
  second : B
  third : C
  first_was : a ≡ Some first
  second_was : b ≡ Some second
  third_was : c ≡ Some third
  made : make first second third ≡ f

three_were : {A B C : Type 0} (make : A → B → C → Form) (a : Option A) (b : Option B) (c : Option C) (f : Form) → three_of make a b c ≡ Some f → Three make a b c f
three_were make None b c f h = absurd cc
three_were make (Some x) b c f h =
    let r = both_were (make x) b c f h in
    record { first = x; second = r.first; third = r.second; first_was = refl; second_was = r.first_was; third_was = r.second_was; made = r.made }

the_same : (f g : Form) → Some f ≡ Some g → f ≡ g
the_same f g h = cc

-- tokens that are a form are those of the form that it equals
meant : (v : Version) (ts : List Tok) (f g : Form) → f ≡ g → SpellsLine v ts f → SpellsLine v ts g
meant v ts f g e d = subst (SpellsLine v ts) e d

some_meant : (v : Version) (ts : List Tok) (f g : Form) → Some f ≡ Some g → SpellsLine v ts f → SpellsLine v ts g
some_meant v ts f g e d = subst (SpellsLine v ts) (the_same f g e) d

-- what an optional number made
made_of : {A : Type 0} (make : ℕ → A) (o : Option ℕ) (x : A) → option_map make o ≡ Some x → (n : ℕ) × (o ≡ Some n) × (make n ≡ x)
made_of make None x h = absurd cc
made_of make (Some n) x h = let e : make n ≡ x = cc in (n, refl, e)

name_limit_by : (v : Version) (text name : List ℕ) (l : Limit) (b : Bool) → has_multiples v ≡ b
    → cond b (option_map (λ n. limit.Times n name) (int_of text)) None ≡ Some l → SpellsLimit v (TNumber text ∷ TSymbol symbol.Times ∷ TName name ∷ []) l
name_limit_by v text name l true e h =
    let r = made_of (λ n. limit.Times n name) (int_of text) l h in
    subst (SpellsLimit v (TNumber text ∷ TSymbol symbol.Times ∷ TName name ∷ [])) r.2 (limit_times e text name r.1)
name_limit_by v text name l false e h = absurd cc

name_limit_says : (v : Version) (text : List ℕ) (ts : List Tok) (l : Limit) → name_limit v (int_of text) ts ≡ Some l → SpellsLimit v (TNumber text ∷ TSymbol symbol.Times ∷ ts) l
name_limit_says v text (TName name ∷ []) l h = name_limit_by v text name l (has_multiples v) refl h
name_limit_says v text _ l h = absurd cc

times_limit_says : (v : Version) (c : Symbol) (text : List ℕ) (ts : List Tok) (l : Limit) → times_limit v c (int_of text) ts ≡ Some l → SpellsLimit v (TNumber text ∷ TSymbol c ∷ ts) l
times_limit_says v symbol.Times text ts l h = name_limit_says v text ts l h
times_limit_says v _ text ts l h = absurd cc

number_limit_says : (v : Version) (text : List ℕ) (ts : List Tok) (l : Limit) → number_limit v (int_of text) ts ≡ Some l → SpellsLimit v (TNumber text ∷ ts) l
number_limit_says v text [] l h =
    let r = made_of limit.Int (int_of text) l h in
    subst (SpellsLimit v (TNumber text ∷ [])) r.2 (limit_int text r.1)
number_limit_says v text (TSymbol c ∷ ts) l h = times_limit_says v c text ts l h
number_limit_says v text _ l h = absurd cc

var_limit_says : (v : Version) (name : List ℕ) (ts : List Tok) (l : Limit) → var_limit name ts ≡ Some l → SpellsLimit v (TName name ∷ ts) l
var_limit_says v name [] l h = let q : limit.Var name ≡ l = cc in subst (SpellsLimit v (TName name ∷ [])) q (limit_var name)
var_limit_says v name _ l h = absurd cc

limit_says : (v : Version) (ts : List Tok) (l : Limit) → limit_of v ts ≡ Some l → SpellsLimit v ts l
limit_says v (TNumber text ∷ ts) l h = number_limit_says v text ts l h
limit_says v (TName name ∷ ts) l h = var_limit_says v name ts l h
limit_says v _ l h = absurd cc

start_says : (ts : List Tok) (v : Lit) → start_of ts ≡ Some v → SpellsStart ts v
start_says [] v h = let q : zero_lit ≡ v = cc in subst (SpellsStart []) q start_none
start_says (t ∷ ts) v h = start_some (lit_says (t ∷ ts) v h)

word_says : (word : Key) (f : Form) → word_form word ≡ Some f → SpellsWord word f
word_says key.Top f h = subst (SpellsWord key.Top) (the_same FTop f h) word_top
word_says key.End f h = subst (SpellsWord key.End) (the_same FEnd f h) word_end
word_says key.SetAttributes f h = subst (SpellsWord key.SetAttributes) (the_same FSetAttributes f h) word_set_attributes
word_says key.Initialize f h = subst (SpellsWord key.Initialize) (the_same FInitialize f h) word_initialize
word_says key.Processing f h = subst (SpellsWord key.Processing) (the_same FProcessing f h) word_processing
word_says key.ChangeAttributes f h = subst (SpellsWord key.ChangeAttributes) (the_same FChangeAttributes f h) word_change_attributes
word_says key.Reinitialize f h = subst (SpellsWord key.Reinitialize) (the_same FReinitialize f h) word_reinitialize
word_says key.DoesAttributeChanges f h = subst (SpellsWord key.DoesAttributeChanges) (the_same FDoes f h) word_does
word_says key.AcceptAttributeChanges f h = subst (SpellsWord key.AcceptAttributeChanges) (the_same FAccept f h) word_accept
word_says key.RejectAttributeChanges f h = subst (SpellsWord key.RejectAttributeChanges) (the_same FReject f h) word_reject
word_says key.Process f h = subst (SpellsWord key.Process) (the_same FProcess f h) word_process
word_says key.DontInitialize f h = subst (SpellsWord key.DontInitialize) (the_same FDontInitialize f h) word_dont_initialize
word_says key.Else f h = subst (SpellsWord key.Else) (the_same FElse f h) word_else
word_says _ f h = absurd cc

only : (v : Version) (word : Key) (name : List ℕ) (g : Form) → SpellsNamed word name g → (ts : List Tok) (f : Form) → nothing_after g ts ≡ Some f → SpellsLine v (TKey word ∷ TName name ∷ ts) f
only v word name g d [] f h = some_meant v (TKey word ∷ TName name ∷ []) g f h (named_line word name d)
only v word name g d (t ∷ ts) f h = absurd cc

port_means : (v : Version) (word : Key) (kind : PortKind) (name : List ℕ) → SpellsPort word kind → (ts : List Tok) (f : Form) → option_map (FPort kind name) (format_of ts) ≡ Some f
    → SpellsLine v (TKey word ∷ TName name ∷ ts) f
port_means v word kind name d ts f h =
    let r = mapped (FPort kind name) (format_of ts) f h in
    meant v _ _ f r.made (port_line word name d (format_says ts r.item r.was))

cut : (ts : List Tok) → take (format_len ts) ts ++ drop (format_len ts) ts ≡ ts
cut ts = take-append-drop (format_len ts) ts

const_means : (v : Version) (name : List ℕ) (ts : List Tok) (f : Form) → both_of (FConst name) (cut_first ts) (lit_of (cut_rest ts)) ≡ Some f → SpellsLine v (TKey key.Const ∷ TName name ∷ ts) f
const_means v name ts f h =
    let r = both_were (FConst name) (cut_first ts) (lit_of (cut_rest ts)) f h in
    subst (λ (us : List Tok). SpellsLine v (TKey key.Const ∷ TName name ∷ us) f) (cut ts)
    (meant v _ _ f r.made (const_line name (format_says (take (format_len ts) ts) r.first r.first_was) (lit_says (cut_rest ts) r.second r.second_was)))

var_means : (v : Version) (name : List ℕ) (ts : List Tok) (f : Form) → both_of (FVar name) (cut_first ts) (start_of (cut_rest ts)) ≡ Some f → SpellsLine v (TKey key.Var ∷ TName name ∷ ts) f
var_means v name ts f h =
    let r = both_were (FVar name) (cut_first ts) (start_of (cut_rest ts)) f h in
    subst (λ (us : List Tok). SpellsLine v (TKey key.Var ∷ TName name ∷ us) f) (cut ts)
    (meant v _ _ f r.made (var_line name (format_says (take (format_len ts) ts) r.first r.first_was) (start_says (cut_rest ts) r.second r.second_was)))

de_signal_means : (v : Version) (name : List ℕ) (ts : List Tok) (f : Form) → both_of (FDeSignal name) (cut_first ts) (start_of (cut_rest ts)) ≡ Some f
    → SpellsLine v (TKey key.DeSignal ∷ TName name ∷ ts) f
de_signal_means v name ts f h =
    let r = both_were (FDeSignal name) (cut_first ts) (start_of (cut_rest ts)) f h in
    subst (λ (us : List Tok). SpellsLine v (TKey key.DeSignal ∷ TName name ∷ us) f) (cut ts)
    (meant v _ _ f r.made (de_signal_line name (format_says (take (format_len ts) ts) r.first r.first_was) (start_says (cut_rest ts) r.second r.second_was)))

array_by : (v : Version) (name : List ℕ) (a rest : List Tok) (f : Form) → array_rest name (format_of a) rest ≡ Some f → SpellsLine v (TKey key.Array ∷ TName name ∷ (a ++ rest)) f
array_by v name a (TNumber text ∷ ts) f h =
    let r = three_were (FArray name) (format_of a) (int_of text) (lits_of ts) f h in
    meant v _ _ f r.made (array_line name text (format_says a r.first r.first_was) r.second_was (lits_says ts r.third r.third_was))
array_by v name a _ f h = absurd cc

array_means : (v : Version) (name : List ℕ) (ts : List Tok) (f : Form) → array_rest name (cut_first ts) (cut_rest ts) ≡ Some f → SpellsLine v (TKey key.Array ∷ TName name ∷ ts) f
array_means v name ts f h = subst (λ (us : List Tok). SpellsLine v (TKey key.Array ∷ TName name ∷ us) f) (cut ts) (array_by v name (take (format_len ts) ts) (cut_rest ts) f h)

third_means : (v : Version) (name first second : List ℕ) (ts : List Tok) (f : Form) → third_rate name (int_of first) (int_of second) ts ≡ Some f
    → SpellsLine v (TKey key.Rate ∷ TName name ∷ TNumber first ∷ TNumber second ∷ ts) f
third_means v name first second (TNumber third ∷ []) f h =
    let r = three_were (FRateVar name) (int_of first) (int_of second) (int_of third) f h in
    meant v _ _ f r.made (rate_var_line name first second third r.first_was r.second_was r.third_was)
third_means v name first second _ f h = absurd cc

times_rate_means : (v : Version) (c : Symbol) (name first : List ℕ) (ts : List Tok) (f : Form) → times_rate v c name (int_of first) ts ≡ Some f
    → SpellsLine v (TKey key.Rate ∷ TName name ∷ TNumber first ∷ TSymbol c ∷ ts) f
unfolding times_rate
times_rate_means v c name first ts f h =
    let r = mapped (FRate name) (times_limit v c (int_of first) ts) f h in
    meant v _ _ f r.made (rate_line name (times_limit_says v c first ts r.item r.was))

second_means : (v : Version) (name first : List ℕ) (ts : List Tok) (f : Form) → second_rate v name (int_of first) ts ≡ Some f → SpellsLine v (TKey key.Rate ∷ TName name ∷ TNumber first ∷ ts) f
second_means v name first [] f h =
    let r = mapped (λ n. FRate name (limit.Int n)) (int_of first) f h in
    meant v _ _ f r.made (rate_line name (limit_int first r.was))
second_means v name first (TNumber second ∷ ts) f h = third_means v name first second ts f h
second_means v name first (TSymbol c ∷ ts) f h = times_rate_means v c name first ts f h
second_means v name first _ f h = absurd cc

rate_symbol_means : (v : Version) (c : Symbol) (name : List ℕ) (ts : List Tok) (f : Form) → rate_symbol v c name ts ≡ Some f → SpellsLine v (TKey key.Rate ∷ TName name ∷ TSymbol c ∷ ts) f
rate_symbol_means v symbol.Becomes name ts f h =
    let r = mapped (FSetRate name) (expr_of v ts) f h in
    meant v _ _ f r.made (set_rate_line name (expr_says v ts r.item r.was))
rate_symbol_means v _ name ts f h = absurd cc

rate_name_means : (v : Version) (name rate : List ℕ) (ts : List Tok) (f : Form) → nothing_after (FRate name (limit.Var rate)) ts ≡ Some f → SpellsLine v (TKey key.Rate ∷ TName name ∷ TName rate ∷ ts) f
rate_name_means v name rate [] f h = some_meant v (TKey key.Rate ∷ TName name ∷ TName rate ∷ []) (FRate name (limit.Var rate)) f h (rate_line name (limit_var rate))
rate_name_means v name rate (t ∷ ts) f h = absurd cc

rate_means : (v : Version) (name : List ℕ) (ts : List Tok) (f : Form) → rate_form v name ts ≡ Some f → SpellsLine v (TKey key.Rate ∷ TName name ∷ ts) f
rate_means v name (TNumber text ∷ ts) f h = second_means v name text ts f h
rate_means v name (TName rate ∷ ts) f h = rate_name_means v name rate ts f h
rate_means v name (TSymbol c ∷ ts) f h = rate_symbol_means v c name ts f h
rate_means v name _ f h = absurd cc

delay_means : (v : Version) (port : List ℕ) (ts : List Tok) (f : Form) → delay_form port ts ≡ Some f → SpellsLine v (TKey key.Delay ∷ TName port ∷ ts) f
delay_means v port (TNumber text ∷ []) f h =
    let r = mapped (FDelay port) (int_of text) f h in
    meant v _ _ f r.made (delay_line port text r.was)
delay_means v port _ f h = absurd cc

initial_value_means : (v : Version) (port text : List ℕ) (ts : List Tok) (f : Form) (o : Option ℕ) → int_of text ≡ o → initial_value port o ts ≡ Some f
    → SpellsLine v (TKey key.Initial ∷ TName port ∷ TNumber text ∷ ts) f
initial_value_means v port text ts f None e h = absurd cc
initial_value_means v port text ts f (Some n) e h =
    let r = mapped (FInitial port n) (lit_of ts) f h in
    meant v _ _ f r.made (initial_line port text e (lit_says ts r.item r.was))

initial_means : (v : Version) (port : List ℕ) (ts : List Tok) (f : Form) → initial_form port ts ≡ Some f → SpellsLine v (TKey key.Initial ∷ TName port ∷ ts) f
initial_means v port (TNumber text ∷ ts) f h = initial_value_means v port text ts f (int_of text) refl h
initial_means v port _ f h = absurd cc

after_means : (v : Version) (event : List ℕ) (ts : List Tok) (f : Form) → after_form event ts ≡ Some f → SpellsLine v (TKey key.Notify ∷ TName event ∷ TKey key.After ∷ ts) f
after_means v event (TTime count ∷ []) f h = some_meant v (TKey key.Notify ∷ TName event ∷ TKey key.After ∷ TTime count ∷ []) (FNotify event count) f h (notify_after_line event count)
after_means v event _ f h = absurd cc

notify_means : (v : Version) (event : List ℕ) (ts : List Tok) (f : Form) → notify_form event ts ≡ Some f → SpellsLine v (TKey key.Notify ∷ TName event ∷ ts) f
notify_means v event [] f h = some_meant v (TKey key.Notify ∷ TName event ∷ []) (FNotify event 0) f h (notify_line event)
notify_means v event (TKey key.After ∷ ts) f h = after_means v event ts f h
notify_means v event _ f h = absurd cc

instance_means : (v : Version) (name : List ℕ) (ts : List Tok) (f : Form) → instance_form name ts ≡ Some f → SpellsLine v (TKey key.Instance ∷ TName name ∷ ts) f
instance_means v name (TName block ∷ []) f h = some_meant v (TKey key.Instance ∷ TName name ∷ TName block ∷ []) (FInstance name block) f h (instance_line name block)
instance_means v name _ f h = absurd cc

target_means : (v : Version) (instance port : List ℕ) (ts : List Tok) (f : Form) → bind_target instance port ts ≡ Some f
    → SpellsLine v (TKey key.Bind ∷ TName instance ∷ TSymbol symbol.Point ∷ TName port ∷ ts) f
target_means v instance port (TName target ∷ []) f h =
    some_meant v (TKey key.Bind ∷ TName instance ∷ TSymbol symbol.Point ∷ TName port ∷ TName target ∷ []) (FBind instance port target) f h (bind_line instance port target)
target_means v instance port _ f h = absurd cc

bind_port_means : (v : Version) (instance : List ℕ) (ts : List Tok) (f : Form) → bind_port instance ts ≡ Some f → SpellsLine v (TKey key.Bind ∷ TName instance ∷ TSymbol symbol.Point ∷ ts) f
bind_port_means v instance (TName port ∷ ts) f h = target_means v instance port ts f h
bind_port_means v instance _ f h = absurd cc

bind_means : (v : Version) (instance : List ℕ) (ts : List Tok) (f : Form) → bind_form instance ts ≡ Some f → SpellsLine v (TKey key.Bind ∷ TName instance ∷ ts) f
bind_means v instance (TSymbol symbol.Point ∷ ts) f h = bind_port_means v instance ts f h
bind_means v instance _ f h = absurd cc

for_limit_means : (v : Version) (name text : List ℕ) (ts : List Tok) (f : Form) (o : Option ℕ) → int_of text ≡ o → for_limit v name o ts ≡ Some f
    → SpellsLine v (TKey key.For ∷ TName name ∷ TNumber text ∷ ts) f
for_limit_means v name text ts f None e h = absurd cc
for_limit_means v name text ts f (Some n) e h =
    let r = mapped (FFor name n) (limit_of v ts) f h in
    meant v _ _ f r.made (for_line name text e (limit_says v ts r.item r.was))

for_means : (v : Version) (name : List ℕ) (ts : List Tok) (f : Form) → for_form v name ts ≡ Some f → SpellsLine v (TKey key.For ∷ TName name ∷ ts) f
for_means v name (TNumber text ∷ ts) f h = for_limit_means v name text ts f (int_of text) refl h
for_means v name _ f h = absurd cc

key_name_means : (v : Version) (word : Key) (name : List ℕ) (ts : List Tok) (f : Form) → key_name_form v word name ts ≡ Some f → SpellsLine v (TKey word ∷ TName name ∷ ts) f
key_name_means v key.Tdf name ts f h = only v key.Tdf name (FTdf name) (named_tdf name) ts f h
key_name_means v key.De name ts f h = only v key.De name (FDe name) (named_de name) ts f h
key_name_means v key.Composite name ts f h = only v key.Composite name (FComposite name) (named_composite name) ts f h
key_name_means v key.Event name ts f h = only v key.Event name (FEvent name) (named_event name) ts f h
key_name_means v key.Sensitive name ts f h = only v key.Sensitive name (FSensitive name) (named_sensitive name) ts f h
key_name_means v key.Type name ts f h =
    let r = mapped (FType name) (shape_of ts) f h in
    meant v _ _ f r.made (type_line name (shape_says ts r.item r.was))
key_name_means v key.In name ts f h = port_means v key.In _ name port_in ts f h
key_name_means v key.Out name ts f h = port_means v key.Out _ name port_out ts f h
key_name_means v key.DeIn name ts f h = port_means v key.DeIn _ name port_de_in ts f h
key_name_means v key.DeOut name ts f h = port_means v key.DeOut _ name port_de_out ts f h
key_name_means v key.Signal name ts f h =
    let r = mapped (FSignal name) (format_of ts) f h in
    meant v _ _ f r.made (signal_line name (format_says ts r.item r.was))
key_name_means v key.Const name ts f h = const_means v name ts f h
key_name_means v key.Var name ts f h = var_means v name ts f h
key_name_means v key.DeSignal name ts f h = de_signal_means v name ts f h
key_name_means v key.Array name ts f h = array_means v name ts f h
key_name_means v key.Rate name ts f h = rate_means v name ts f h
key_name_means v key.Delay name ts f h = delay_means v name ts f h
key_name_means v key.Initial name ts f h = initial_means v name ts f h
key_name_means v key.Notify name ts f h = notify_means v name ts f h
key_name_means v key.Instance name ts f h = instance_means v name ts f h
key_name_means v key.Bind name ts f h = bind_means v name ts f h
key_name_means v key.For name ts f h = for_means v name ts f h
key_name_means v _ name ts f h = absurd cc

rest_means : (v : Version) (word : Key) (ts : List Tok) (f : Form) → rest_form v word ts ≡ Some f → SpellsLine v (TKey word ∷ ts) f
rest_means v word [] f h = word_line word (word_says word f h)
rest_means v word (TName name ∷ ts) f h = key_name_means v word name ts f h
rest_means v word _ f h = absurd cc

named_step_means : (v : Version) (port : List ℕ) (ts : List Tok) (f : Form) → named_step_form port ts ≡ Some f → SpellsLine v (TKey key.Timestep ∷ TName port ∷ ts) f
named_step_means v port (TTime count ∷ []) f h = some_meant v (TKey key.Timestep ∷ TName port ∷ TTime count ∷ []) (FStep (Some port) count) f h (port_step_line port count)
named_step_means v port _ f h = absurd cc

step_means : (v : Version) (ts : List Tok) (f : Form) → step_form ts ≡ Some f → SpellsLine v (TKey key.Timestep ∷ ts) f
step_means v (TTime count ∷ []) f h = some_meant v (TKey key.Timestep ∷ TTime count ∷ []) (FStep None count) f h (step_line count)
step_means v (TName port ∷ ts) f h = named_step_means v port ts f h
step_means v _ f h = absurd cc

trace_by : (v : Version) (a rest : List Tok) (f : Form) → trace_end (path_of a) rest ≡ Some f → SpellsLine v (TKey key.Trace ∷ (a ++ rest)) f
trace_by v a (TName label ∷ []) f h =
    let r = mapped (λ p. FTrace p label) (path_of a) f h in
    meant v _ _ f r.made (trace_line label (path_says a r.item r.was))
trace_by v a _ f h = absurd cc

trace_means : (v : Version) (ts : List Tok) (f : Form) → trace_form ts ≡ Some f → SpellsLine v (TKey key.Trace ∷ ts) f
trace_means v ts f h =
    subst (λ (us : List Tok). SpellsLine v (TKey key.Trace ∷ us) f) (take-append-drop (length ts - 1) ts) (trace_by v (take (length ts - 1) ts) (drop (length ts - 1) ts) f h)

key_means : (v : Version) (word : Key) (ts : List Tok) (f : Form) → key_form v word ts ≡ Some f → SpellsLine v (TKey word ∷ ts) f
key_means v key.If ts f h =
    let r = mapped FIf (expr_of v ts) f h in
    meant v _ _ f r.made (if_line (expr_says v ts r.item r.was))
key_means v key.Trace ts f h = trace_means v ts f h
key_means v key.Timestep ts f h = step_means v ts f h
key_means v word ts f h = rest_means v word ts f h

value_by : (v : Version) (name : List ℕ) (a rest : List Tok) (f : Form) → item_value v name (index_of v a) rest ≡ Some f
    → SpellsLine v (TName name ∷ TSymbol symbol.OpenSquare ∷ (a ++ TSymbol symbol.CloseSquare ∷ rest)) f
value_by v name a (TSymbol symbol.Becomes ∷ ts) f h =
    let r = both_were (λ j e. FAssign name (Some j) e) (index_of v a) (expr_of v ts) f h in
    meant v _ _ f r.made (assign_item_line name (index_says v a r.first r.first_was) (expr_says v ts r.second r.second_was))
value_by v name a _ f h = absurd cc

close_by : (v : Version) (name : List ℕ) (a rest : List Tok) (f : Form) → item_close v name (index_of v a) rest ≡ Some f → SpellsLine v (TName name ∷ TSymbol symbol.OpenSquare ∷ (a ++ rest)) f
close_by v name a (TSymbol symbol.CloseSquare ∷ ts) f h = value_by v name a ts f h
close_by v name a _ f h = absurd cc

symbol_means : (v : Version) (c : Symbol) (name : List ℕ) (ts : List Tok) (f : Form) → name_symbol v c name ts ≡ Some f → SpellsLine v (TName name ∷ TSymbol c ∷ ts) f
symbol_means v symbol.Becomes name ts f h =
    let r = mapped (FAssign name None) (expr_of v ts) f h in
    meant v _ _ f r.made (assign_line name (expr_says v ts r.item r.was))
symbol_means v symbol.OpenSquare name ts f h =
    subst (λ (us : List Tok). SpellsLine v (TName name ∷ TSymbol symbol.OpenSquare ∷ us) f) (take-append-drop (index_len ts) ts)
    (close_by v name (take (index_len ts) ts) (drop (index_len ts) ts) f h)
symbol_means v _ name ts f h = absurd cc

name_means : (v : Version) (name : List ℕ) (ts : List Tok) (f : Form) → name_form v name ts ≡ Some f → SpellsLine v (TName name ∷ ts) f
name_means v name (TSymbol c ∷ ts) f h = symbol_means v c name ts f h
name_means v name _ f h = absurd cc

pub form_means : (v : Version) (ts : List Tok) (f : Form) → form_of v ts ≡ Some f → SpellsLine v ts f
unfolding form_of
form_means v (TKey word ∷ ts) f h = key_means v word ts f h
form_means v (TName name ∷ ts) f h = name_means v name ts f h
form_means v _ f h = absurd cc
