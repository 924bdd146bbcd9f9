-- How token lines are read (own): line by line, with the open blocks and what they hold so far. Private functions' clauses cite it; `proofs/`
-- show that it reads exactly what `SpellsTree` says.
use Rattle.std.specs.Prelude.{ℕ, zero, suc, Bool, true, false, cond, nat_lt, nat_le, List, [], ◌∷◌, ◌++◌, length, Option, Some, None, codes}
use Rattle.tdf_lang_lexer.specs.Token.{TokenLine}
use Rattle.tdf_lang_lexer.specs.declared.dialect.Dialect.{Dialect}
use Rattle.tdf_lang_tree.specs.Pure.{PureExpr, PureStmt, SIf, SFor, Done, PureBody, PureTdfLine, PureTdf, PureDeLine, PureProcess, PureDe, PureComposite, PureGlobal, GShape, GTdf, GDe, GNet, PureTrace, PureTree}
use Rattle.tdf_lang_tree.specs.Views.{sts}
use Rattle.tdf_lang_tree.specs.declared.blocks.Attr.{Attr}
use Rattle.tdf_lang_tree.specs.declared.blocks.Initial.{Initial}
use Rattle.tdf_lang_tree.specs.declared.blocks.Member.{Member}
use Rattle.tdf_lang_tree.specs.declared.blocks.Sense.{Sense}
use Rattle.tdf_lang_tree.specs.declared.stmt.Limit.{Limit}
use Rattle.tdf_lang_parser.specs.Faults.{Part, Initialize, Processing, Change, Reinitialize, Process, kind_of_body, Nest, NIf, NElse, NFor, Where, AtGlobals, InTdf, InAttributes, InInitialize, InBody, InDe, InProcess, InComposite, InTop, AtTraces}
use Rattle.tdf_lang_tree.specs.Forms.{Form, FType, FTdf, FDe, FComposite, FTop, FEnd, FSetAttributes, FInitialize, FProcessing, FChangeAttributes, FReinitialize, FInitial, FProcess, FSensitive, FDontInitialize, FIf, FElse, FFor}
use Rattle.tdf_lang_parser.specs.Items.{tdf_line_of, attr_of, de_line_of, member_of, net_line_of, trace_item, stmt_of}
use Rattle.tdf_lang_lines.specs.machine.Reads.{form_of}
use Rattle.tdf_lang_parser.specs.SpellsTree.{body_with, no_body, deepest}

-- what comes before an open block: the dialect, and what was declared
pub record Outer : Type 0 where
  pub dialect : Dialect
  pub globals : List PureGlobal

-- before the first declaration
abbrev pub outset : Dialect → Outer
outset lang = record { dialect = lang; globals = [] }

-- an open `if` or `for`, with the statements before it
pub data Frame : Type 0 where
  FrIf : (line : ℕ) → PureExpr → List PureStmt → Frame
  FrElse : (line : ℕ) → PureExpr → (first : List PureStmt) → List PureStmt → Frame
  FrFor : (line : ℕ) → (name : List ℕ) → (from : ℕ) → Limit → List PureStmt → Frame

-- whose body is open
pub data Owner : Type 0 where
  OwnInitialize : Outer → PureTdf → Owner
  OwnProcessing : Outer → PureTdf → Owner
  OwnChange : Outer → PureTdf → Owner
  OwnReinitialize : Outer → PureTdf → Owner
  OwnProcess : Outer → PureDe → PureProcess → Owner

abbrev pub part_of : Owner → Part
part_of (OwnInitialize o t) = Initialize
part_of (OwnProcessing o t) = Processing
part_of (OwnChange o t) = Change
part_of (OwnReinitialize o t) = Reinitialize
part_of (OwnProcess o d p) = Process

pub data Place : Type 0 where
  PGlobals : Outer → Place
  PTdf : Outer → (parts : ℕ) → PureTdf → Place
  PAttributes : Outer → PureTdf → Place
  PInitialize : Outer → PureTdf → Place
  PBody : Owner → List Frame → List PureStmt → Place
  PDe : Outer → (declares : Bool) → PureDe → Place
  PProcess : Outer → PureDe → PureProcess → Place
  PNet : Outer → PureComposite → Place
  PTop : Outer → PureComposite → Place
  PTraces : PureTree → Place
  PLost : Place

abbrev pub with_global : Outer → PureGlobal → Outer
with_global o g = record { dialect = o.dialect; globals = o.globals ++ g ∷ [] }

abbrev pub new_tdf : ℕ → List ℕ → PureTdf
new_tdf line name = record {
  line = line;
  name = name;
  decls = [];
  attrs = [];
  initials = [];
  initialize = no_body;
  processing = no_body;
  change = no_body;
  reinitialize = no_body;
}

abbrev pub new_de : ℕ → List ℕ → PureDe
new_de line name = record { line = line; name = name; decls = []; processes = [] }

abbrev pub new_process : ℕ → PureProcess
new_process line = record { line = line; sensitive = []; starts = true; body = no_body }

abbrev pub new_net : ℕ → List ℕ → PureComposite
new_net line name = record { line = line; name = name; members = [] }

-- one item more
abbrev pub with_decl : PureTdf → PureTdfLine → PureTdf
with_decl t x = record t { decls = t.decls ++ x ∷ [] }

abbrev pub with_attr : PureTdf → Attr → PureTdf
with_attr t x = record t { attrs = t.attrs ++ x ∷ [] }

abbrev pub with_initial : PureTdf → Initial → PureTdf
with_initial t x = record t { initials = t.initials ++ x ∷ [] }

abbrev pub with_de_line : PureDe → PureDeLine → PureDe
with_de_line d x = record d { decls = d.decls ++ x ∷ [] }

abbrev pub with_sense : PureProcess → Sense → PureProcess
with_sense p x = record p { sensitive = p.sensitive ++ x ∷ [] }

abbrev pub with_member : PureComposite → Member → PureComposite
with_member c x = record c { members = c.members ++ x ∷ [] }

abbrev pub with_trace : PureTree → PureTrace → PureTree
with_trace t x = record t { traces = t.traces ++ x ∷ [] }

-- the block that holds a body that is whole
abbrev pub finished : Owner → PureBody → Place
finished (OwnInitialize o t) b = PTdf o 2 (record t { initialize = b })
finished (OwnProcessing o t) b = PTdf o 3 (record t { processing = b })
finished (OwnChange o t) b = PTdf o 4 (record t { change = b })
finished (OwnReinitialize o t) b = PTdf o 5 (record t { reinitialize = b })
finished (OwnProcess o d p) b = PDe o false (record d { processes = d.processes ++ (record p { body = b }) ∷ [] })

-- `end` in a body
abbrev pub end_body : Owner → ℕ → List Frame → List PureStmt → Place
end_body owner n [] acc = finished owner (body_with acc n)
end_body owner n (FrIf line e outer ∷ fs) acc = PBody owner fs (outer ++ SIf line e (sts acc) Done ∷ [])
end_body owner n (FrElse line e first outer ∷ fs) acc = PBody owner fs (outer ++ SIf line e (sts first) (sts acc) ∷ [])
end_body owner n (FrFor line name from l outer ∷ fs) acc = PBody owner fs (outer ++ SFor line name from l (sts acc) ∷ [])

abbrev pub else_body : Owner → List Frame → List PureStmt → Place
else_body owner (FrIf line e outer ∷ fs) acc = PBody owner (FrElse line e acc outer ∷ fs) []
else_body owner _ acc = PLost

abbrev pub head_body : Owner → Frame → List Frame → Place
head_body owner fr fs = cond (nat_lt (length fs) deepest) (PBody owner (fr ∷ fs) []) PLost

abbrev pub more_body : Owner → List Frame → List PureStmt → Option PureStmt → Place
more_body owner fs acc (Some s) = PBody owner fs (acc ++ s ∷ [])
more_body owner fs acc None = PLost

abbrev pub goes_body : Owner → List Frame → List PureStmt → ℕ → Form → Place
goes_body owner fs acc n (FIf e) = head_body owner (FrIf n e acc) fs
goes_body owner fs acc n (FFor name from l) = head_body owner (FrFor n name from l acc) fs
goes_body owner fs acc n FElse = else_body owner fs acc
goes_body owner fs acc n FEnd = end_body owner n fs acc
goes_body owner fs acc n f = more_body owner fs acc (stmt_of (kind_of_body (part_of owner)) n f)

abbrev pub goes_globals : Outer → ℕ → Form → Place
goes_globals o n (FType name s) = PGlobals (with_global o (GShape (record { line = n; name = name; shape = s })))
goes_globals o n (FTdf name) = PTdf o 0 (new_tdf n name)
goes_globals o n (FDe name) = PDe o true (new_de n name)
goes_globals o n (FComposite name) = PNet o (new_net n name)
goes_globals o n FTop = PTop o (new_net n (codes "top"))
goes_globals o n _ = PLost

abbrev pub more_tdf : Outer → PureTdf → Option PureTdfLine → Place
more_tdf o t (Some x) = PTdf o 0 (with_decl t x)
more_tdf o t None = PLost

abbrev pub goes_tdf : Outer → ℕ → PureTdf → ℕ → Form → Place
goes_tdf o parts t n FSetAttributes = cond (nat_le parts 0) (PAttributes o t) PLost
goes_tdf o parts t n FInitialize = cond (nat_le parts 1) (PInitialize o t) PLost
goes_tdf o parts t n FProcessing = cond (nat_le parts 2) (PBody (OwnProcessing o t) [] []) PLost
goes_tdf o parts t n FChangeAttributes = cond (nat_le parts 3) (PBody (OwnChange o t) [] []) PLost
goes_tdf o parts t n FReinitialize = cond (nat_le parts 4) (PBody (OwnReinitialize o t) [] []) PLost
goes_tdf o parts t n FEnd = PGlobals (with_global o (GTdf t))
goes_tdf o zero t n f = more_tdf o t (tdf_line_of n f)
goes_tdf o (suc parts) t n f = PLost

abbrev pub more_attributes : Outer → PureTdf → Option Attr → Place
more_attributes o t (Some x) = PAttributes o (with_attr t x)
more_attributes o t None = PLost

abbrev pub goes_attributes : Outer → PureTdf → ℕ → Form → Place
goes_attributes o t n FEnd = PTdf o 1 t
goes_attributes o t n f = more_attributes o t (attr_of n f)

abbrev pub goes_initialize : Outer → PureTdf → ℕ → Form → Place
goes_initialize o t n (FInitial port place v) = PInitialize o (with_initial t (record { line = n; port = port; place = place; value = v }))
goes_initialize o t n f = goes_body (OwnInitialize o t) [] [] n f

abbrev pub more_de : Outer → PureDe → Option PureDeLine → Place
more_de o d (Some x) = PDe o true (with_de_line d x)
more_de o d None = PLost

abbrev pub goes_de : Outer → Bool → PureDe → ℕ → Form → Place
goes_de o declares d n FProcess = PProcess o d (new_process n)
goes_de o declares d n FEnd = PGlobals (with_global o (GDe d))
goes_de o true d n f = more_de o d (de_line_of n f)
goes_de o false d n f = PLost

abbrev pub goes_process : Outer → PureDe → PureProcess → ℕ → Form → Place
goes_process o d p n (FSensitive name) = PProcess o d (with_sense p (record { line = n; name = name }))
goes_process o d p n FDontInitialize = PBody (OwnProcess o d (record p { starts = false })) [] []
goes_process o d p n f = goes_body (OwnProcess o d p) [] [] n f

abbrev pub more_net : Outer → PureComposite → Option Member → Place
more_net o c (Some x) = PNet o (with_member c x)
more_net o c None = PLost

abbrev pub goes_net : Outer → PureComposite → ℕ → Form → Place
goes_net o c n FEnd = PGlobals (with_global o (GNet c))
goes_net o c n f = more_net o c (net_line_of n f)

abbrev pub more_top : Outer → PureComposite → Option Member → Place
more_top o c (Some x) = PTop o (with_member c x)
more_top o c None = PLost

-- the tree after the `end` of `top`
abbrev pub closed_top : Outer → PureComposite → PureTree
closed_top o c = record { version = o.dialect.version; resolution = o.dialect.resolution; globals = o.globals; top = c; traces = [] }

abbrev pub goes_top : Outer → PureComposite → ℕ → Form → Place
goes_top o c n FEnd = PTraces (closed_top o c)
goes_top o c n f = more_top o c (member_of n f)

abbrev pub more_traces : PureTree → Option PureTrace → Place
more_traces t (Some x) = PTraces (with_trace t x)
more_traces t None = PLost

-- where line n of form f leads
abbrev pub goes : Place → ℕ → Form → Place
goes (PGlobals o) n f = goes_globals o n f
goes (PTdf o parts t) n f = goes_tdf o parts t n f
goes (PAttributes o t) n f = goes_attributes o t n f
goes (PInitialize o t) n f = goes_initialize o t n f
goes (PBody owner fs acc) n f = goes_body owner fs acc n f
goes (PDe o declares d) n f = goes_de o declares d n f
goes (PProcess o d p) n f = goes_process o d p n f
goes (PNet o c) n f = goes_net o c n f
goes (PTop o c) n f = goes_top o c n f
goes (PTraces t) n f = more_traces t (trace_item n f)
goes PLost n f = PLost

abbrev pub read_form : Place → ℕ → Option Form → Place
read_form p n (Some f) = goes p n f
read_form p n None = PLost

unfoldable pub reads_row : Dialect → Place → TokenLine → Place
reads_row lang p r = read_form p r.number (form_of lang.version r.tokens)

unfoldable pub reads_rows : Dialect → Place → List TokenLine → Place
reads_rows lang p [] = p
reads_rows lang p (r ∷ rs) = reads_rows lang (reads_row lang p r) rs

-- the place without what it holds
abbrev pub nest_of : Frame → Nest
nest_of (FrIf line e outer) = NIf
nest_of (FrElse line e first outer) = NElse
nest_of (FrFor line name from l outer) = NFor

abbrev pub nests_of : List Frame → List Nest
nests_of [] = []
nests_of (fr ∷ fs) = nest_of fr ∷ nests_of fs

abbrev pub where_of : Place → Option Where
where_of (PGlobals o) = Some AtGlobals
where_of (PTdf o parts t) = Some (InTdf parts)
where_of (PAttributes o t) = Some InAttributes
where_of (PInitialize o t) = Some InInitialize
where_of (PBody owner fs acc) = Some (InBody (part_of owner) (nests_of fs))
where_of (PDe o declares d) = Some (InDe declares)
where_of (PProcess o d p) = Some InProcess
where_of (PNet o c) = Some InComposite
where_of (PTop o c) = Some InTop
where_of (PTraces t) = Some AtTraces
where_of PLost = None

-- the first line that is lost, or the line after the last where the lines don't end at the traces
abbrev pub is_lost : Place → Bool
is_lost PLost = true
is_lost _ = false

abbrev pub is_traces : Place → Bool
is_traces (PTraces t) = true
is_traces _ = false

unfoldable pub fault_from : Dialect → Place → List TokenLine → ℕ → Option ℕ
fault_from lang p [] after = cond (is_traces p) None (Some after)
fault_from lang p (r ∷ rs) after = cond (is_lost (reads_row lang p r)) (Some r.number) (fault_from lang (reads_row lang p r) rs after)
