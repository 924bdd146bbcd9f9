-- The canonical text of a tree: its lines in order. An empty part of a `tdf` block and an empty
-- `else` are left out; version 3 alone has a line with the resolution, and has it always. (own)
use Rattle.std.specs.Fmt.{decimal}
use Rattle.std.specs.Prelude.{ℕ, Bool, true, false, if◌then◌else◌, List, [], ◌∷◌, ◌++◌, map, codes}
use Rattle.tdf_base.specs.Version.{has_resolution, number_of_version}
use Rattle.tdf_base.specs.declared.resolution.Resolution.{Resolution}
use Rattle.tdf_base.specs.declared.version.Version.{Version}
use Rattle.std.specs.List.{flat_map}
use Rattle.tdf_lang_tree.specs.Forms.{Form, FType, FTdf, FDe, FComposite, FTop, FEnd, FPort, FConst, FVar, FArray, FRateVar, FSetAttributes, FInitialize, FProcessing, FChangeAttributes, FReinitialize, FStep, FRate, FDelay, FDoes, FAccept, FReject, FInitial, FEvent, FProcess, FSensitive, FDontInitialize, FNotify, FSignal, FDeSignal, FInstance, FBind, FTrace, FAssign, FIf, FElse, FFor, FSetRate}
use Rattle.tdf_lang_tree.specs.Pure.{PureStmt, SAssign, SIf, SFor, SNotify, SSetRate, SSetStep, SAccept, SReject, PureStmts, Done, More, PureStore, SConst, SVar, SArray, PureTdfLine, TPort, TStore, TRate, PureTdf, PureDeLine, DPort, DStore, DEvent, PureProcess, PureDe, PureComposite, PureGlobal, GShape, GTdf, GDe, GNet, PureTrace, PureTree}
use Rattle.tdf_lang_tree.specs.declared.blocks.Attr.{Attr}
use Rattle.tdf_lang_tree.specs.declared.blocks.Attr.TheVariants as attr
use Rattle.tdf_lang_tree.specs.declared.blocks.Initial.{Initial}
use Rattle.tdf_lang_tree.specs.declared.blocks.Member.{Member}
use Rattle.tdf_lang_tree.specs.declared.blocks.Member.TheVariants as member
use Rattle.tdf_lang_tree.specs.declared.blocks.PortLine.{PortLine}
use Rattle.tdf_lang_tree.specs.declared.blocks.Sense.{Sense}
use Rattle.tdf_lang_printer.specs.Lines.{lines_text, unit_text}

abbrev pub port_line : PortLine → Form
port_line port = FPort port.kind port.name port.format

abbrev pub store_line : PureStore → Form
store_line (SConst line name x v) = FConst name x v
store_line (SVar line name x v) = FVar name x v
store_line (SArray line name x size vs) = FArray name x size vs

abbrev pub tdf_line : PureTdfLine → Form
tdf_line (TPort port) = port_line port
tdf_line (TStore store) = store_line store
tdf_line (TRate line name least greatest start) = FRateVar name least greatest start

abbrev pub attr_line : Attr → Form
attr_line (attr.Step line port step) = FStep port step
attr_line (attr.Rate line port rate) = FRate port rate
attr_line (attr.Delay line port count) = FDelay port count
attr_line (attr.Does line) = FDoes
attr_line (attr.Accept line) = FAccept
attr_line (attr.Reject line) = FReject

abbrev pub initial_line : Initial → Form
initial_line initial = FInitial initial.port initial.place initial.value

abbrev mutual
  pub stmt_lines : PureStmt → List Form
  stmt_lines (SAssign line name i e) = FAssign name i e ∷ []
  stmt_lines (SIf line test first second) = FIf test ∷ (stmts_lines first ++ (else_lines second ++ FEnd ∷ []))
  stmt_lines (SFor line name from l body) = FFor name from l ∷ (stmts_lines body ++ FEnd ∷ [])
  stmt_lines (SNotify line event after) = FNotify event after ∷ []
  stmt_lines (SSetRate line name e) = FSetRate name e ∷ []
  stmt_lines (SSetStep line port step) = FStep port step ∷ []
  stmt_lines (SAccept line) = FAccept ∷ []
  stmt_lines (SReject line) = FReject ∷ []

  pub stmts_lines : PureStmts → List Form
  stmts_lines Done = []
  stmts_lines (More s ss) = stmt_lines s ++ stmts_lines ss

  pub else_lines : PureStmts → List Form
  else_lines Done = []
  else_lines (More s ss) = FElse ∷ (stmt_lines s ++ stmts_lines ss)

-- a part of a `tdf` block: its head, its lines and `end`
abbrev pub block_lines : Form → List Form → List Form
block_lines head inner = head ∷ (inner ++ FEnd ∷ [])

-- an empty part is left out
abbrev pub part_lines : Form → PureStmts → List Form
part_lines head Done = []
part_lines head (More s ss) = block_lines head (stmts_lines (More s ss))

abbrev pub attributes_lines : List Attr → List Form
attributes_lines [] = []
attributes_lines (x ∷ xs) = block_lines FSetAttributes (map attr_line (x ∷ xs))

abbrev pub initialize_lines : List Initial → PureStmts → List Form
initialize_lines [] Done = []
initialize_lines [] (More s ss) = block_lines FInitialize (stmts_lines (More s ss))
initialize_lines (x ∷ xs) ss = block_lines FInitialize (map initial_line (x ∷ xs) ++ stmts_lines ss)

abbrev pub tdf_lines : PureTdf → List Form
tdf_lines block =
    FTdf block.name ∷ (map tdf_line block.decls
    ++ (attributes_lines block.attrs
    ++ (initialize_lines block.initials block.initialize.list
    ++ (part_lines FProcessing block.processing.list
    ++ (part_lines FChangeAttributes block.change.list
    ++ (part_lines FReinitialize block.reinitialize.list
    ++ FEnd ∷ []))))))

abbrev pub de_line : PureDeLine → Form
de_line (DPort port) = port_line port
de_line (DStore store) = store_line store
de_line (DEvent line name) = FEvent name

abbrev pub sense_line : Sense → Form
sense_line sense = FSensitive sense.name

-- `dont_initialize`, where the process doesn't run at the start
abbrev pub dont_lines : Bool → List Form
dont_lines true = []
dont_lines false = FDontInitialize ∷ []

abbrev pub process_lines : PureProcess → List Form
process_lines process = FProcess ∷ (map sense_line process.sensitive
    ++ (dont_lines process.starts ++ (stmts_lines process.body.list ++ FEnd ∷ [])))

abbrev pub de_lines : PureDe → List Form
de_lines block = FDe block.name
    ∷ (map de_line block.decls ++ (flat_map process_lines block.processes ++ FEnd ∷ []))

abbrev pub member_line : Member → Form
member_line (member.Port port) = port_line port
member_line (member.Signal line name x) = FSignal name x
member_line (member.DeSignal line name x start) = FDeSignal name x start
member_line (member.Instance line name block) = FInstance name block
member_line (member.Bind line instance port target) = FBind instance port target

abbrev pub composite_lines : PureComposite → List Form
composite_lines block = FComposite block.name ∷ (map member_line block.members ++ FEnd ∷ [])

abbrev pub global_lines : PureGlobal → List Form
global_lines (GShape shape) = FType shape.name shape.shape ∷ []
global_lines (GTdf block) = tdf_lines block
global_lines (GDe block) = de_lines block
global_lines (GNet block) = composite_lines block

abbrev pub form_of_trace : PureTrace → Form
form_of_trace trace = FTrace trace.path trace.label

-- the lines after the head
abbrev pub tree_lines : PureTree → List Form
tree_lines tree = flat_map global_lines tree.globals
    ++ (FTop ∷ (map member_line tree.top.members ++ (FEnd ∷ map form_of_trace tree.traces)))

unfoldable pub language_text : Version → List ℕ
language_text version = codes "language " ++ (decimal (number_of_version version) ++ 10 ∷ [])

unfoldable pub unit_line : Resolution → List ℕ
unit_line unit = codes "resolution 1" ++ (unit_text unit ++ 10 ∷ [])

unfoldable pub resolution_text : Version → Resolution → List ℕ
resolution_text version unit = if has_resolution version then unit_line unit else []

-- the lines that say how the others are read
unfoldable pub head_text : Version → Resolution → List ℕ
head_text version unit = language_text version ++ resolution_text version unit

-- the canonical text
unfoldable pub canon : PureTree → List ℕ
canon tree = head_text tree.version tree.resolution ++ lines_text tree.resolution (tree_lines tree)
