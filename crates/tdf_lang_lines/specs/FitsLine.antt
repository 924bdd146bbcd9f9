-- Which tokens are a line of which kind, with no tree (own): the line forms of the grammar without what they hold.
use Rattle.std.specs.Prelude.{◌≡◌, ℕ, true, List, [], ◌∷◌, ◌++◌}
use Rattle.tdf_base.specs.Version.{has_multiples}
use Rattle.tdf_base.specs.declared.version.Version.{Version}
use Rattle.tdf_lang_exprs.specs.Fits.{IsInt, FitsLit, FitsLits, FitsIndex, FitsShape, FitsFormat, FitsPath, FitsExpr}
use Rattle.tdf_lang_lines.specs.SpellsLine.{SpellsPort}
use Rattle.tdf_lang_lexer.specs.Token.{Tok, TName, TKey, TNumber, TTime, TSymbol}
use Rattle.tdf_lang_lexer.specs.declared.key.Key.{Key}
use Rattle.tdf_lang_lexer.specs.declared.key.Key.TheVariants as key
use Rattle.tdf_lang_lexer.specs.declared.key.Symbol.TheVariants as symbol
use Rattle.tdf_lang_tree.specs.Kinds.{Kind, KType, KTdf, KDe, KComposite, KTop, KEnd, KPort, KConst, KVar, KArray, KRateVar, KSetAttributes, KInitialize, KProcessing, KChangeAttributes, KReinitialize, KStep, KRate, KDelay, KDoes, KAccept, KReject, KInitial, KEvent, KProcess, KSensitive, KDontInitialize, KNotify, KSignal, KDeSignal, KInstance, KBind, KTrace, KAssign, KIf, KElse, KFor, KSetRate}
use Rattle.tdf_lang_tree.specs.declared.blocks.PortKind.{PortKind}

-- a literal, or none
pub data FitsStart : List Tok → Type 0 where
  fits_start_none : FitsStart []
  fits_start_some : {a : List Tok} → FitsLit a → FitsStart a

-- a whole number, a rate variable, or from version 2 on a multiple of a rate variable
pub data FitsLimit (v : Version) : List Tok → Type 0 where
  fits_limit_int : (text : List ℕ) → IsInt text → FitsLimit v (TNumber text ∷ [])
  fits_limit_var : (name : List ℕ) → FitsLimit v (TName name ∷ [])
  fits_limit_times : has_multiples v ≡ true → (text name : List ℕ) → IsInt text → FitsLimit v (TNumber text ∷ TSymbol symbol.Times ∷ TName name ∷ [])

-- a line that is one reserved word
pub data FitsWord : Key → Kind → Type 0 where
  fits_top : FitsWord key.Top KTop
  fits_end : FitsWord key.End KEnd
  fits_set_attributes : FitsWord key.SetAttributes KSetAttributes
  fits_initialize : FitsWord key.Initialize KInitialize
  fits_processing : FitsWord key.Processing KProcessing
  fits_change_attributes : FitsWord key.ChangeAttributes KChangeAttributes
  fits_reinitialize : FitsWord key.Reinitialize KReinitialize
  fits_does : FitsWord key.DoesAttributeChanges KDoes
  fits_accept : FitsWord key.AcceptAttributeChanges KAccept
  fits_reject : FitsWord key.RejectAttributeChanges KReject
  fits_process : FitsWord key.Process KProcess
  fits_dont_initialize : FitsWord key.DontInitialize KDontInitialize
  fits_else : FitsWord key.Else KElse

-- a line that is a reserved word and a name
pub data FitsNamed : Key → Kind → Type 0 where
  fits_tdf : FitsNamed key.Tdf KTdf
  fits_de : FitsNamed key.De KDe
  fits_composite : FitsNamed key.Composite KComposite
  fits_event : FitsNamed key.Event KEvent
  fits_sensitive : FitsNamed key.Sensitive KSensitive

-- `FitsLine v ts k`: in version v the tokens are a line of kind k
pub data FitsLine (v : Version) : List Tok → Kind → Type 0 where
  fits_word_line : (word : Key) {k : Kind} → FitsWord word k → FitsLine v (TKey word ∷ []) k
  fits_named_line : (word : Key) (name : List ℕ) {k : Kind} → FitsNamed word k → FitsLine v (TKey word ∷ TName name ∷ []) k
  fits_type : (name : List ℕ) {a : List Tok} → FitsShape a → FitsLine v (TKey key.Type ∷ TName name ∷ a) KType
  fits_port : (word : Key) (name : List ℕ) {a : List Tok} {kind : PortKind} → SpellsPort word kind → FitsFormat a
      → FitsLine v (TKey word ∷ TName name ∷ a) (KPort kind)
  fits_const : (name : List ℕ) {a b : List Tok} → FitsFormat a → FitsLit b → FitsLine v (TKey key.Const ∷ TName name ∷ (a ++ b)) KConst
  fits_var : (name : List ℕ) {a b : List Tok} → FitsFormat a → FitsStart b → FitsLine v (TKey key.Var ∷ TName name ∷ (a ++ b)) KVar
  fits_array : (name text : List ℕ) {a b : List Tok} → FitsFormat a → IsInt text → FitsLits b
      → FitsLine v (TKey key.Array ∷ TName name ∷ (a ++ TNumber text ∷ b)) KArray
  fits_rate_var : (name first second third : List ℕ) → IsInt first → IsInt second → IsInt third
      → FitsLine v (TKey key.Rate ∷ TName name ∷ TNumber first ∷ TNumber second ∷ TNumber third ∷ []) KRateVar
  fits_step : (count : ℕ) → FitsLine v (TKey key.Timestep ∷ TTime count ∷ []) KStep
  fits_port_step : (port : List ℕ) (count : ℕ) → FitsLine v (TKey key.Timestep ∷ TName port ∷ TTime count ∷ []) KStep
  fits_rate : (port : List ℕ) {a : List Tok} → FitsLimit v a → FitsLine v (TKey key.Rate ∷ TName port ∷ a) KRate
  fits_delay : (port text : List ℕ) → IsInt text → FitsLine v (TKey key.Delay ∷ TName port ∷ TNumber text ∷ []) KDelay
  fits_initial : (port text : List ℕ) {a : List Tok} → IsInt text → FitsLit a → FitsLine v (TKey key.Initial ∷ TName port ∷ TNumber text ∷ a) KInitial
  fits_notify : (event : List ℕ) → FitsLine v (TKey key.Notify ∷ TName event ∷ []) KNotify
  fits_notify_after : (event : List ℕ) (count : ℕ) → FitsLine v (TKey key.Notify ∷ TName event ∷ TKey key.After ∷ TTime count ∷ []) KNotify
  fits_signal : (name : List ℕ) {a : List Tok} → FitsFormat a → FitsLine v (TKey key.Signal ∷ TName name ∷ a) KSignal
  fits_de_signal : (name : List ℕ) {a b : List Tok} → FitsFormat a → FitsStart b → FitsLine v (TKey key.DeSignal ∷ TName name ∷ (a ++ b)) KDeSignal
  fits_instance : (name block : List ℕ) → FitsLine v (TKey key.Instance ∷ TName name ∷ TName block ∷ []) KInstance
  fits_bind : (instance port target : List ℕ)
      → FitsLine v (TKey key.Bind ∷ TName instance ∷ TSymbol symbol.Point ∷ TName port ∷ TName target ∷ []) KBind
  fits_trace : (label : List ℕ) {a : List Tok} → FitsPath a → FitsLine v (TKey key.Trace ∷ (a ++ TName label ∷ [])) KTrace
  fits_assign : (name : List ℕ) {a : List Tok} → FitsExpr v 0 a → FitsLine v (TName name ∷ TSymbol symbol.Becomes ∷ a) KAssign
  fits_assign_item : (name : List ℕ) {a b : List Tok} → FitsIndex v a → FitsExpr v 0 b
      → FitsLine v (TName name ∷ TSymbol symbol.OpenSquare ∷ (a ++ TSymbol symbol.CloseSquare ∷ TSymbol symbol.Becomes ∷ b)) KAssign
  fits_if : {a : List Tok} → FitsExpr v 0 a → FitsLine v (TKey key.If ∷ a) KIf
  fits_for : (name text : List ℕ) {a : List Tok} → IsInt text → FitsLimit v a → FitsLine v (TKey key.For ∷ TName name ∷ TNumber text ∷ a) KFor
  fits_set_rate : (name : List ℕ) {a : List Tok} → FitsExpr v 0 a → FitsLine v (TKey key.Rate ∷ TName name ∷ TSymbol symbol.Becomes ∷ a) KSetRate
