-- Where the first syntax fault is (own): a table of places and of the kinds of lines that each allows. No tree occurs in it.
use Rattle.std.specs.Prelude.{◌≡◌, ◌≢◌, ℕ, zero, suc, Bool, true, false, cond, nat_lt, nat_le, List, [], ◌∷◌, length, Option, Some, None, ◌⊎◌}
use Rattle.tdf_base.specs.Limits.{deepest_nesting}
use Rattle.tdf_base.specs.declared.resolution.Resolution.{Resolution}
use Rattle.tdf_base.specs.declared.resolution.Resolution.TheVariants.{Ps}
use Rattle.tdf_base.specs.declared.version.Version.{Version}
use Rattle.tdf_base.specs.declared.version.Version.TheVariants.{V3}
use Rattle.tdf_lang_parser.specs.Head.{SpellsVersion, SpellsResolution}
use Rattle.tdf_lang_parser.specs.Items.{BodyKind, Plain, OfChange, OfProcess}
use Rattle.tdf_lang_lines.specs.FitsLine.{FitsLine}
use Rattle.tdf_lang_lexer.specs.Token.{TokenLine, Tok}
use Rattle.tdf_lang_lexer.specs.Dialect.{token_lines}
use Rattle.tdf_lang_lexer.specs.Rows.{Row}
use Rattle.tdf_lang_lexer.specs.declared.dialect.Dialect.{Dialect}
use Rattle.tdf_lang_tree.specs.Kinds.{Kind, KAccept, KArray, KAssign, KBind, KChangeAttributes, KComposite, KConst, KDe, KDeSignal, KDelay, KDoes, KDontInitialize, KElse, KEnd, KEvent, KFor, KIf, KInitial, KInitialize, KInstance, KNotify, KPort, KProcess, KProcessing, KRate, KRateVar, KReinitialize, KReject, KSensitive, KSetAttributes, KSetRate, KSignal, KStep, KTdf, KTop, KTrace, KType, KVar}
use Rattle.tdf_lang_tree.specs.declared.blocks.PortKind.{PortKind}
use Rattle.tdf_lang_tree.specs.declared.blocks.PortKind.TheVariants as port_kind

-- the lines of each group
abbrev pub is_store : Kind → Bool
is_store KConst = true
is_store KVar = true
is_store KArray = true
is_store _ = false

abbrev pub is_tdf_line : Kind → Bool
is_tdf_line (KPort kind) = true
is_tdf_line KRateVar = true
is_tdf_line f = is_store f

abbrev pub is_attribute : Kind → Bool
is_attribute KStep = true
is_attribute KRate = true
is_attribute KDelay = true
is_attribute KDoes = true
is_attribute KAccept = true
is_attribute KReject = true
is_attribute _ = false

abbrev pub is_de_port : PortKind → Bool
is_de_port port_kind.DeIn = true
is_de_port port_kind.DeOut = true
is_de_port _ = false

abbrev pub is_de_line : Kind → Bool
is_de_line (KPort kind) = is_de_port kind
is_de_line KEvent = true
is_de_line f = is_store f

abbrev pub is_member : Kind → Bool
is_member KSignal = true
is_member KDeSignal = true
is_member KInstance = true
is_member KBind = true
is_member _ = false

abbrev pub is_net_line : Kind → Bool
is_net_line (KPort kind) = true
is_net_line f = is_member f

abbrev pub is_trace : Kind → Bool
is_trace KTrace = true
is_trace _ = false

-- the statement that every body may hold, an assignment
abbrev pub is_plain : Kind → Bool
is_plain KAssign = true
is_plain _ = false

-- the statements of a change body: assignments, and those that set attributes
abbrev pub is_change : Kind → Bool
is_change KSetRate = true
is_change KStep = true
is_change KAccept = true
is_change KReject = true
is_change f = is_plain f

-- the statements of a process: assignments and notifications
abbrev pub is_reaction : Kind → Bool
is_reaction KNotify = true
is_reaction f = is_plain f

abbrev pub is_statement : BodyKind → Kind → Bool
is_statement Plain f = is_plain f
is_statement OfChange f = is_change f
is_statement OfProcess f = is_reaction f

-- a body: one of the four parts of a `tdf` block that hold statements, or a process
pub data Part : Type 0 where
  Initialize : Part
  Processing : Part
  Change : Part
  Reinitialize : Part
  Process : Part

abbrev pub kind_of_body : Part → BodyKind
kind_of_body Initialize = Plain
kind_of_body Processing = Plain
kind_of_body Change = OfChange
kind_of_body Reinitialize = Plain
kind_of_body Process = OfProcess

-- an open `if` before and after its `else`, and an open `for`
pub data Nest : Type 0 where
  NIf : Nest
  NElse : Nest
  NFor : Nest

-- the place of a line
pub data Where : Type 0 where
  AtGlobals : Where
  InTdf : (parts : ℕ) → Where  -- only the parts from this one on may come; before the first, with 0, also declarations
  InAttributes : Where
  InInitialize : Where  -- before the first statement
  InBody : Part → List Nest → Where  -- innermost first
  InDe : (declares : Bool) → Where  -- before the first process declarations may come
  InProcess : Where  -- before `dont_initialize` and the first statement
  InComposite : Where
  InTop : Where
  AtTraces : Where

-- the place that a line leads to, where its place allows it
abbrev pub if_so : Bool → Where → Option Where
if_so b w = cond b (Some w) None

-- the place that holds a body, after its `end`
abbrev pub where_after_body : Part → Where
where_after_body Initialize = InTdf 2
where_after_body Processing = InTdf 3
where_after_body Change = InTdf 4
where_after_body Reinitialize = InTdf 5
where_after_body Process = InDe false

-- `end` closes the block that was opened last
abbrev pub after_end : Part → List Nest → Where
after_end part [] = where_after_body part
after_end part (nest ∷ nests) = InBody part nests

-- `else` comes once in an `if`
abbrev pub after_else : Part → List Nest → Option Where
after_else part (NIf ∷ nests) = Some (InBody part (NElse ∷ nests))
after_else part _ = None

-- a head of `if` or `for`, which are nested at most 8 deep
abbrev pub after_head : Part → Nest → List Nest → Option Where
after_head part nest nests = if_so (nat_lt (length nests) deepest_nesting) (InBody part (nest ∷ nests))

abbrev pub in_body : Part → List Nest → Kind → Option Where
in_body part nests KIf = after_head part NIf nests
in_body part nests KFor = after_head part NFor nests
in_body part nests KElse = after_else part nests
in_body part nests KEnd = Some (after_end part nests)
in_body part nests f = if_so (is_statement (kind_of_body part) f) (InBody part nests)

-- the heads of the five parts come in their order, each at most once
abbrev pub in_tdf : ℕ → Kind → Option Where
in_tdf parts KSetAttributes = if_so (nat_le parts 0) InAttributes
in_tdf parts KInitialize = if_so (nat_le parts 1) InInitialize
in_tdf parts KProcessing = if_so (nat_le parts 2) (InBody Processing [])
in_tdf parts KChangeAttributes = if_so (nat_le parts 3) (InBody Change [])
in_tdf parts KReinitialize = if_so (nat_le parts 4) (InBody Reinitialize [])
in_tdf parts KEnd = Some AtGlobals
in_tdf zero f = if_so (is_tdf_line f) (InTdf 0)
in_tdf (suc parts) f = None

abbrev pub in_de : Bool → Kind → Option Where
in_de declares KProcess = Some InProcess
in_de declares KEnd = Some AtGlobals
in_de true f = if_so (is_de_line f) (InDe true)
in_de false f = None

-- `next w k`: where a line of kind k leads from place w, if w allows it
abbrev pub where_next : Where → Kind → Option Where
where_next AtGlobals KType = Some AtGlobals
where_next AtGlobals KTdf = Some (InTdf 0)
where_next AtGlobals KDe = Some (InDe true)
where_next AtGlobals KComposite = Some InComposite
where_next AtGlobals KTop = Some InTop
where_next AtGlobals _ = None
where_next (InTdf parts) f = in_tdf parts f
where_next InAttributes KEnd = Some (InTdf 1)
where_next InAttributes f = if_so (is_attribute f) InAttributes
where_next InInitialize KInitial = Some InInitialize
where_next InInitialize f = in_body Initialize [] f
where_next (InBody part nests) f = in_body part nests f
where_next (InDe declares) f = in_de declares f
where_next InProcess KSensitive = Some InProcess
where_next InProcess KDontInitialize = Some (InBody Process [])
where_next InProcess f = in_body Process [] f
where_next InComposite KEnd = Some AtGlobals
where_next InComposite f = if_so (is_net_line f) InComposite
where_next InTop KEnd = Some AtTraces
where_next InTop f = if_so (is_member f) InTop
where_next AtTraces f = if_so (is_trace f) AtTraces

-- the tokens are a line of a kind that the place w allows, and it leads to v
pub record Allows (lang : Dialect) (w : Where) (ts : List Tok) (v : Where) : Type 0 where
  pub kind : Kind
  pub line : FitsLine lang.version ts kind
  pub leads : where_next w kind ≡ Some v

-- `Faults lang w lines after n`: from place w on the first line at fault is n; where no line is at fault and the lines don't end in the
-- place of the traces, it is the number of all lines plus 1
abbrev pub Faults : Dialect → Where → List TokenLine → ℕ → ℕ → Type 0
Faults lang w [] after n = (w ≢ AtTraces) × (n ≡ after)
Faults lang w (r ∷ rs) after n =
    (((v : Where) → Allows lang w r.tokens v → ⊥) × (n ≡ r.number)) ⊎ ((v : Where) × Allows lang w r.tokens v × Faults lang v rs after n)

-- the first row is no `language` line
abbrev pub HasNoVersion : Row → Type 0
HasNoVersion h = (version : Version) → SpellsVersion h.pieces version → ⊥

-- the rows don't go on with a resolution line that the version allows
abbrev pub HasNoResolution : Version → List Row → Type 0
HasNoResolution version [] = Unit {0}
HasNoResolution version (r ∷ rs) = (resolution : Resolution) → version ≡ V3 → SpellsResolution r.pieces resolution → ⊥

-- the first syntax fault of the rows of a text: that of its first row, or, where the first row says a version, that of the rows after those
-- that open the text, in its dialect
pub data HasFault : List Row → (after n : ℕ) → Type 0 where
  no_row : {after : ℕ} → HasFault [] after after
  no_version : (h : Row) {rs : List Row} {after : ℕ} → HasNoVersion h → HasFault (h ∷ rs) after h.number
  after_version : (h : Row) {rs : List Row} {after n : ℕ} {version : Version} → SpellsVersion h.pieces version → HasNoResolution version rs
      → Faults (record { version = version; resolution = Ps }) AtGlobals (token_lines (record { version = version; resolution = Ps }) rs) after n
      → HasFault (h ∷ rs) after n
  after_resolution : (h r : Row) {rs : List Row} {after n : ℕ} {resolution : Resolution} → SpellsVersion h.pieces V3 → SpellsResolution r.pieces resolution
      → Faults (record { version = V3; resolution = resolution }) AtGlobals (token_lines (record { version = V3; resolution = resolution }) rs) after n
      → HasFault (h ∷ r ∷ rs) after n
