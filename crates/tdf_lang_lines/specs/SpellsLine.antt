-- Which tokens are which line form (own): the line forms of the grammar, one case a form. `v` is the version of the text: a
-- multiple of a rate variable is a limit from version 2 on. The lines that open a text, `language` and `resolution`, are not
-- among them.
use Rattle.std.specs.Prelude.{◌≡◌, ℕ, true, false, List, [], ◌∷◌, ◌++◌, Some, None, codes}
use Rattle.tdf_base.specs.Version.{has_multiples}
use Rattle.tdf_base.specs.declared.version.Version.{Version}
use Rattle.tdf_lang_lexer.specs.Token.{Tok, TName, TKey, TNumber, TTime, TSymbol}
use Rattle.tdf_lang_lexer.specs.declared.key.Key.{Key}
use Rattle.tdf_lang_lexer.specs.declared.key.Key.TheVariants as key
use Rattle.tdf_lang_lexer.specs.declared.key.Symbol.TheVariants as symbol
use Rattle.tdf_lang_tree.specs.Pure.{PureExpr}
use Rattle.tdf_lang_tree.specs.declared.blocks.PortKind.{PortKind}
use Rattle.tdf_lang_tree.specs.declared.blocks.PortKind.TheVariants as port_kind
use Rattle.tdf_lang_tree.specs.declared.expr.Index.{Index}
use Rattle.tdf_lang_tree.specs.declared.names.Lit.{Lit}
use Rattle.tdf_lang_tree.specs.declared.shapes.FormatRef.{FormatRef}
use Rattle.tdf_lang_tree.specs.declared.shapes.Shape.{Shape}
use Rattle.tdf_lang_tree.specs.declared.stmt.Limit.{Limit}
use Rattle.tdf_lang_tree.specs.declared.stmt.Limit.TheVariants as limit
use Rattle.tdf_lang_exprs.specs.Formats.{SpellsShape, SpellsFormat}
use Rattle.tdf_lang_exprs.specs.Index.{SpellsIndex}
use Rattle.tdf_lang_exprs.specs.Literals.{SpellsLit, SpellsLits}
use Rattle.tdf_base.specs.Digits.{int_of}
use Rattle.tdf_lang_exprs.specs.Paths.{SpellsPath}
use Rattle.tdf_lang_exprs.specs.SpellsExpr.{SpellsExpr}
use Rattle.tdf_lang_tree.specs.Forms.{Form, FType, FTdf, FDe, FComposite, FTop, FEnd, FPort, FConst, FVar, FArray, FRateVar, FSetAttributes, FInitialize, FProcessing, FChangeAttributes, FReinitialize, FStep, FRate, FDelay, FDoes, FAccept, FReject, FInitial, FEvent, FProcess, FSensitive, FDontInitialize, FNotify, FSignal, FDeSignal, FInstance, FBind, FTrace, FAssign, FIf, FElse, FFor, FSetRate}

-- the literal 0, for an absent one
abbrev pub zero_lit : Lit
zero_lit = record { minus = false; digits = codes "0" }

-- a literal, or none
pub data SpellsStart : List Tok → Lit → Type 0 where
  start_none : SpellsStart [] zero_lit
  start_some : {a : List Tok} {x : Lit} → SpellsLit a x → SpellsStart a x

-- a whole number, a rate variable, or from version 2 on a multiple of a rate variable
pub data SpellsLimit (v : Version) : List Tok → Limit → Type 0 where
  limit_int : (text : List ℕ) {n : ℕ} → int_of text ≡ Some n → SpellsLimit v (TNumber text ∷ []) (limit.Int n)
  limit_var : (name : List ℕ) → SpellsLimit v (TName name ∷ []) (limit.Var name)
  limit_times : has_multiples v ≡ true → (text name : List ℕ) {n : ℕ} → int_of text ≡ Some n
      → SpellsLimit v (TNumber text ∷ TSymbol symbol.Times ∷ TName name ∷ []) (limit.Times n name)

-- the word of a port line
pub data SpellsPort : Key → PortKind → Type 0 where
  port_in : SpellsPort key.In port_kind.In
  port_out : SpellsPort key.Out port_kind.Out
  port_de_in : SpellsPort key.DeIn port_kind.DeIn
  port_de_out : SpellsPort key.DeOut port_kind.DeOut

-- a line that is one reserved word
pub data SpellsWord : Key → Form → Type 0 where
  word_top : SpellsWord key.Top FTop
  word_end : SpellsWord key.End FEnd
  word_set_attributes : SpellsWord key.SetAttributes FSetAttributes
  word_initialize : SpellsWord key.Initialize FInitialize
  word_processing : SpellsWord key.Processing FProcessing
  word_change_attributes : SpellsWord key.ChangeAttributes FChangeAttributes
  word_reinitialize : SpellsWord key.Reinitialize FReinitialize
  word_does : SpellsWord key.DoesAttributeChanges FDoes
  word_accept : SpellsWord key.AcceptAttributeChanges FAccept
  word_reject : SpellsWord key.RejectAttributeChanges FReject
  word_process : SpellsWord key.Process FProcess
  word_dont_initialize : SpellsWord key.DontInitialize FDontInitialize
  word_else : SpellsWord key.Else FElse

-- a line that is a reserved word and a name
pub data SpellsNamed : Key → List ℕ → Form → Type 0 where
  named_tdf : (name : List ℕ) → SpellsNamed key.Tdf name (FTdf name)
  named_de : (name : List ℕ) → SpellsNamed key.De name (FDe name)
  named_composite : (name : List ℕ) → SpellsNamed key.Composite name (FComposite name)
  named_event : (name : List ℕ) → SpellsNamed key.Event name (FEvent name)
  named_sensitive : (name : List ℕ) → SpellsNamed key.Sensitive name (FSensitive name)

-- `SpellsLine version ts f`: in this version of the language the tokens of a line are the form f
pub data SpellsLine (version : Version) : List Tok → Form → Type 0 where
  word_line : (word : Key) {f : Form} → SpellsWord word f → SpellsLine version (TKey word ∷ []) f
  named_line : (word : Key) (name : List ℕ) {f : Form} → SpellsNamed word name f → SpellsLine version (TKey word ∷ TName name ∷ []) f
  type_line : (name : List ℕ) {a : List Tok} {s : Shape} → SpellsShape a s → SpellsLine version (TKey key.Type ∷ TName name ∷ a) (FType name s)
  port_line : (word : Key) (name : List ℕ) {a : List Tok} {kind : PortKind} {x : FormatRef} → SpellsPort word kind → SpellsFormat a x
      → SpellsLine version (TKey word ∷ TName name ∷ a) (FPort kind name x)
  const_line : (name : List ℕ) {a b : List Tok} {x : FormatRef} {v : Lit} → SpellsFormat a x → SpellsLit b v
      → SpellsLine version (TKey key.Const ∷ TName name ∷ (a ++ b)) (FConst name x v)
  var_line : (name : List ℕ) {a b : List Tok} {x : FormatRef} {v : Lit} → SpellsFormat a x → SpellsStart b v
      → SpellsLine version (TKey key.Var ∷ TName name ∷ (a ++ b)) (FVar name x v)
  array_line : (name text : List ℕ) {a b : List Tok} {x : FormatRef} {n : ℕ} {vs : List Lit} → SpellsFormat a x → int_of text ≡ Some n → SpellsLits b vs
      → SpellsLine version (TKey key.Array ∷ TName name ∷ (a ++ TNumber text ∷ b)) (FArray name x n vs)
  rate_var_line : (name first second third : List ℕ) {least greatest start : ℕ} → int_of first ≡ Some least → int_of second ≡ Some greatest
      → int_of third ≡ Some start → SpellsLine version (TKey key.Rate ∷ TName name ∷ TNumber first ∷ TNumber second ∷ TNumber third ∷ []) (FRateVar name least greatest start)
  step_line : (count : ℕ) → SpellsLine version (TKey key.Timestep ∷ TTime count ∷ []) (FStep None count)
  port_step_line : (port : List ℕ) (count : ℕ) → SpellsLine version (TKey key.Timestep ∷ TName port ∷ TTime count ∷ []) (FStep (Some port) count)
  rate_line : (port : List ℕ) {a : List Tok} {l : Limit} → SpellsLimit version a l → SpellsLine version (TKey key.Rate ∷ TName port ∷ a) (FRate port l)
  delay_line : (port text : List ℕ) {n : ℕ} → int_of text ≡ Some n → SpellsLine version (TKey key.Delay ∷ TName port ∷ TNumber text ∷ []) (FDelay port n)
  initial_line : (port text : List ℕ) {a : List Tok} {n : ℕ} {v : Lit} → int_of text ≡ Some n → SpellsLit a v
      → SpellsLine version (TKey key.Initial ∷ TName port ∷ TNumber text ∷ a) (FInitial port n v)
  notify_line : (event : List ℕ) → SpellsLine version (TKey key.Notify ∷ TName event ∷ []) (FNotify event 0)
  notify_after_line : (event : List ℕ) (count : ℕ) → SpellsLine version (TKey key.Notify ∷ TName event ∷ TKey key.After ∷ TTime count ∷ []) (FNotify event count)
  signal_line : (name : List ℕ) {a : List Tok} {x : FormatRef} → SpellsFormat a x → SpellsLine version (TKey key.Signal ∷ TName name ∷ a) (FSignal name x)
  de_signal_line : (name : List ℕ) {a b : List Tok} {x : FormatRef} {v : Lit} → SpellsFormat a x → SpellsStart b v
      → SpellsLine version (TKey key.DeSignal ∷ TName name ∷ (a ++ b)) (FDeSignal name x v)
  instance_line : (name block : List ℕ) → SpellsLine version (TKey key.Instance ∷ TName name ∷ TName block ∷ []) (FInstance name block)
  bind_line : (instance port target : List ℕ)
      → SpellsLine version (TKey key.Bind ∷ TName instance ∷ TSymbol symbol.Point ∷ TName port ∷ TName target ∷ []) (FBind instance port target)
  trace_line : (label : List ℕ) {a : List Tok} {path : List (List ℕ)} → SpellsPath a path → SpellsLine version (TKey key.Trace ∷ (a ++ TName label ∷ [])) (FTrace path label)
  assign_line : (name : List ℕ) {a : List Tok} {e : PureExpr} → SpellsExpr version 0 a e → SpellsLine version (TName name ∷ TSymbol symbol.Becomes ∷ a) (FAssign name None e)
  assign_item_line : (name : List ℕ) {a b : List Tok} {i : Index} {e : PureExpr} → SpellsIndex version a i → SpellsExpr version 0 b e
      → SpellsLine version (TName name ∷ TSymbol symbol.OpenSquare ∷ (a ++ TSymbol symbol.CloseSquare ∷ TSymbol symbol.Becomes ∷ b)) (FAssign name (Some i) e)
  if_line : {a : List Tok} {e : PureExpr} → SpellsExpr version 0 a e → SpellsLine version (TKey key.If ∷ a) (FIf e)
  for_line : (name text : List ℕ) {a : List Tok} {n : ℕ} {l : Limit} → int_of text ≡ Some n → SpellsLimit version a l
      → SpellsLine version (TKey key.For ∷ TName name ∷ TNumber text ∷ a) (FFor name n l)
  set_rate_line : (name : List ℕ) {a : List Tok} {e : PureExpr} → SpellsExpr version 0 a e → SpellsLine version (TKey key.Rate ∷ TName name ∷ TSymbol symbol.Becomes ∷ a) (FSetRate name e)

-- the tokens are no line form
abbrev pub IsNoForm : Version → List Tok → Type 0
IsNoForm version ts = (f : Form) → SpellsLine version ts f → ⊥
