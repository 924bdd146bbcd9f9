-- What the tree of each text keeps, said of the tree alone (own): names and numbers have their forms, counts and times are below
-- 10^18, `if` and `for` are nested at most 8 deep, and only version 3 has another resolution than 1 ps.
--
-- The crates that read a tree require this and nothing of the text.
use Rattle.std.specs.Prelude.{◌≡◌, ◌<◌, ℕ, zero, suc, true, List, [], ◌∷◌, Option, Some, None, ◌⊎◌}
use Rattle.tdf_fixed.specs.Below.{Ps, V3, deepest_nesting, is_name, is_number, time_end}
use Rattle.tdf_lang_tree.specs.Pure.{PureExpr, ENumber, EName, EAt, ECast, ESelect, ENot, ENeg, EShift, EBinary, PureStmt, SAssign, SIf, SFor, SNotify, SSetRate, SSetStep, SAccept, SReject, PureStmts, Done, More, PureBody, PureStore, SConst, SVar, SArray, PureTdfLine, TPort, TStore, TRate, PureTdf, PureDeLine, DPort, DStore, DEvent, PureProcess, PureDe, PureComposite, PureGlobal, GShape, GTdf, GDe, GNet, PureTrace, PureTree}
use Rattle.tdf_lang_tree.specs.declared.blocks.Attr.{Attr}
use Rattle.tdf_lang_tree.specs.declared.blocks.Attr.TheVariants as attr
use Rattle.tdf_lang_tree.specs.declared.blocks.Initial.{Initial}
use Rattle.tdf_lang_tree.specs.declared.blocks.Member.{Member}
use Rattle.tdf_lang_tree.specs.declared.blocks.Member.TheVariants as member
use Rattle.tdf_lang_tree.specs.declared.blocks.PortLine.{PortLine}
use Rattle.tdf_lang_tree.specs.declared.blocks.Sense.{Sense}
use Rattle.tdf_lang_tree.specs.declared.expr.Index.{Index}
use Rattle.tdf_lang_tree.specs.declared.expr.Index.TheVariants as index
use Rattle.tdf_lang_tree.specs.declared.names.Lit.{Lit}
use Rattle.tdf_lang_tree.specs.declared.shapes.FormatRef.{FormatRef}
use Rattle.tdf_lang_tree.specs.declared.shapes.FormatRef.TheVariants.{Own, Named}
use Rattle.tdf_lang_tree.specs.declared.shapes.Shape.{Shape}
use Rattle.tdf_lang_tree.specs.declared.shapes.TypeDecl.{TypeDecl}
use Rattle.tdf_lang_tree.specs.declared.stmt.Limit.{Limit}
use Rattle.tdf_lang_tree.specs.declared.stmt.Limit.TheVariants as limit

-- a fact of each element
abbrev pub Each : {A : Type 0} → (A → Type 0) → List A → Type 0
Each holds [] = Unit {0}
Each holds (x ∷ xs) = holds x × Each holds xs

-- 1 to 64 characters, a letter or `_` first, then letters, digits or `_`
abbrev pub IsName : List ℕ → Type 0
IsName name = is_name name ≡ true

-- digits, or digits, a point and digits; 1 to 18 on each side
abbrev pub IsNumber : List ℕ → Type 0
IsNumber digits = is_number digits ≡ true

-- a whole number of at most 18 digits, or a time
abbrev pub IsCount : ℕ → Type 0
IsCount n = n < time_end

abbrev pub KeepsLit : Lit → Type 0
KeepsLit v = IsNumber v.digits

abbrev pub KeepsShape : Shape → Type 0
KeepsShape s = IsCount s.wl × IsCount s.iwl

abbrev pub KeepsFormat : FormatRef → Type 0
KeepsFormat (Own s) = KeepsShape s
KeepsFormat (Named name) = IsName name

abbrev pub KeepsLimit : Limit → Type 0
KeepsLimit (limit.Int n) = IsCount n
KeepsLimit (limit.Var name) = IsName name
KeepsLimit (limit.Times n name) = IsCount n × IsName name

abbrev pub KeepsIndex : Index → Type 0
KeepsIndex (index.Int n) = IsCount n
KeepsIndex (index.Var name) = IsName name
KeepsIndex (index.Plus name n) = IsName name × IsCount n
KeepsIndex (index.Minus name n) = IsName name × IsCount n
KeepsIndex (index.From n name) = IsCount n × IsName name
KeepsIndex (index.Times n name) = IsCount n × IsName name
KeepsIndex (index.TimesPlus n name m) = IsCount n × IsName name × IsCount m

abbrev pub KeepsItem : Option Index → Type 0
KeepsItem None = Unit {0}
KeepsItem (Some i) = KeepsIndex i

abbrev pub KeepsPort : Option (List ℕ) → Type 0
KeepsPort None = Unit {0}
KeepsPort (Some name) = IsName name

abbrev pub KeepsExpr : PureExpr → Type 0
KeepsExpr (ENumber digits) = IsNumber digits
KeepsExpr (EName name) = IsName name
KeepsExpr (EAt name i) = IsName name × KeepsIndex i
KeepsExpr (ECast name x) = IsName name × KeepsExpr x
KeepsExpr (ESelect x y z) = KeepsExpr x × KeepsExpr y × KeepsExpr z
KeepsExpr (ENot x) = KeepsExpr x
KeepsExpr (ENeg x) = KeepsExpr x
KeepsExpr (EShift x left n) = KeepsExpr x × IsCount n
KeepsExpr (EBinary op x y) = KeepsExpr x × KeepsExpr y

-- `KeepsStmt d s`: in s, `if` and `for` are nested at most d deep
abbrev mutual
  pub KeepsStmt : ℕ → PureStmt → Type 0
  KeepsStmt d (SAssign line name i x) = IsName name × KeepsItem i × KeepsExpr x
  KeepsStmt zero (SIf line x first second) = ⊥
  KeepsStmt (suc d) (SIf line x first second) = KeepsExpr x × KeepsStmts d first × KeepsStmts d second
  KeepsStmt zero (SFor line name from l body) = ⊥
  KeepsStmt (suc d) (SFor line name from l body) = IsName name × IsCount from × KeepsLimit l × KeepsStmts d body
  KeepsStmt d (SNotify line event after) = IsName event × IsCount after
  KeepsStmt d (SSetRate line name x) = IsName name × KeepsExpr x
  KeepsStmt d (SSetStep line port step) = KeepsPort port × IsCount step
  KeepsStmt d (SAccept line) = Unit {0}
  KeepsStmt d (SReject line) = Unit {0}

  pub KeepsStmts : ℕ → PureStmts → Type 0
  KeepsStmts d Done = Unit {0}
  KeepsStmts d (More s ss) = KeepsStmt d s × KeepsStmts d ss

abbrev pub KeepsBody : PureBody → Type 0
KeepsBody body = KeepsStmts deepest_nesting body.list

abbrev pub KeepsType : TypeDecl → Type 0
KeepsType t = IsName t.name × KeepsShape t.shape

abbrev pub KeepsPortLine : PortLine → Type 0
KeepsPortLine port = IsName port.name × KeepsFormat port.format

abbrev pub KeepsStore : PureStore → Type 0
KeepsStore (SConst line name x v) = IsName name × KeepsFormat x × KeepsLit v
KeepsStore (SVar line name x v) = IsName name × KeepsFormat x × KeepsLit v
KeepsStore (SArray line name x size vs) = IsName name × KeepsFormat x × IsCount size × Each KeepsLit vs

abbrev pub KeepsTdfLine : PureTdfLine → Type 0
KeepsTdfLine (TPort port) = KeepsPortLine port
KeepsTdfLine (TStore store) = KeepsStore store
KeepsTdfLine (TRate line name least greatest start) = IsName name × IsCount least × IsCount greatest × IsCount start

abbrev pub KeepsAttr : Attr → Type 0
KeepsAttr (attr.Step line port step) = KeepsPort port × IsCount step
KeepsAttr (attr.Rate line port rate) = IsName port × KeepsLimit rate
KeepsAttr (attr.Delay line port count) = IsName port × IsCount count
KeepsAttr (attr.Does line) = Unit {0}
KeepsAttr (attr.Accept line) = Unit {0}
KeepsAttr (attr.Reject line) = Unit {0}

abbrev pub KeepsInitial : Initial → Type 0
KeepsInitial x = IsName x.port × IsCount x.place × KeepsLit x.value

pub record KeepsTdf (block : PureTdf) : Type 0 where
  pub name : IsName block.name
  pub decls : Each KeepsTdfLine block.decls
  pub attrs : Each KeepsAttr block.attrs
  pub initials : Each KeepsInitial block.initials
  pub initialize : KeepsBody block.initialize
  pub processing : KeepsBody block.processing
  pub change : KeepsBody block.change
  pub reinitialize : KeepsBody block.reinitialize

abbrev pub KeepsDeLine : PureDeLine → Type 0
KeepsDeLine (DPort port) = KeepsPortLine port
KeepsDeLine (DStore store) = KeepsStore store
KeepsDeLine (DEvent line name) = IsName name

abbrev pub KeepsSense : Sense → Type 0
KeepsSense sense = IsName sense.name

abbrev pub KeepsProcess : PureProcess → Type 0
KeepsProcess process = Each KeepsSense process.sensitive × KeepsBody process.body

pub record KeepsDe (block : PureDe) : Type 0 where
  pub name : IsName block.name
  pub decls : Each KeepsDeLine block.decls
  pub processes : Each KeepsProcess block.processes

abbrev pub KeepsMember : Member → Type 0
KeepsMember (member.Port port) = KeepsPortLine port
KeepsMember (member.Signal line name x) = IsName name × KeepsFormat x
KeepsMember (member.DeSignal line name x start) = IsName name × KeepsFormat x × KeepsLit start
KeepsMember (member.Instance line name block) = IsName name × IsName block
KeepsMember (member.Bind line instance port target) = IsName instance × IsName port × IsName target

abbrev pub KeepsComposite : PureComposite → Type 0
KeepsComposite block = IsName block.name × Each KeepsMember block.members

abbrev pub KeepsGlobal : PureGlobal → Type 0
KeepsGlobal (GShape t) = KeepsType t
KeepsGlobal (GTdf block) = KeepsTdf block
KeepsGlobal (GDe block) = KeepsDe block
KeepsGlobal (GNet block) = KeepsComposite block

abbrev pub KeepsTrace : PureTrace → Type 0
KeepsTrace trace = Each IsName trace.path × IsName trace.label

pub record IsKept (tree : PureTree) : Type 0 where
  pub resolution : (tree.version ≡ V3) ⊎ (tree.resolution ≡ Ps)
  pub globals : Each KeepsGlobal tree.globals
  pub top : KeepsComposite tree.top
  pub traces : Each KeepsTrace tree.traces
