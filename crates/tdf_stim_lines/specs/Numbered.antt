-- The line numbers of a tree's canonical text: each part has the number of the line on which it
-- stands there, and nothing else of the tree changes.
-- Source: own.
use Rattle.std.specs.List.{flat_map}
use Rattle.std.specs.Prelude.{ℕ, ◌+◌, if◌then◌else◌, List, [], ◌∷◌, length}
use Rattle.tdf_base.specs.Version.{has_resolution}
use Rattle.tdf_base.specs.declared.version.Version.{Version}
use Rattle.tdf_lang_printer.specs.Canon.{stmt_lines, stmts_lines, attributes_lines, initialize_lines, part_lines, dont_lines, process_lines, global_lines}
use Rattle.tdf_lang_tree.specs.Forms.{Form, FProcessing, FChangeAttributes}
use Rattle.tdf_lang_tree.specs.Pure.{PureStmt, SAssign, SIf, SFor, SNotify, SSetRate, SSetStep, SAccept, SReject, PureStmts, Done, More, PureBody, PureStore, SConst, SVar, SArray, PureTdfLine, TPort, TStore, TRate, PureTdf, PureDeLine, DPort, DStore, DEvent, PureProcess, PureDe, PureComposite, PureGlobal, GShape, GTdf, GDe, GNet, PureTrace, PureTree}
use Rattle.tdf_lang_tree.specs.declared.blocks.Attr.{Attr}
use Rattle.tdf_lang_tree.specs.declared.blocks.Attr.TheVariants as attr
use Rattle.tdf_lang_tree.specs.declared.blocks.Initial.{Initial}
use Rattle.tdf_lang_tree.specs.declared.blocks.Member.{Member}
use Rattle.tdf_lang_tree.specs.declared.blocks.Member.TheVariants as member
use Rattle.tdf_lang_tree.specs.declared.blocks.PortLine.{PortLine}
use Rattle.tdf_lang_tree.specs.declared.blocks.Sense.{Sense}
use Rattle.tdf_lang_tree.specs.declared.shapes.TypeDecl.{TypeDecl}

-- parts of one line each, from a line on
abbrev pub lines_at : {A : Type 0} → (ℕ → A → A) → (at : ℕ) → List A → List A
lines_at part_at at [] = []
lines_at part_at at (x ∷ xs) = part_at at x ∷ lines_at part_at (at + 1) xs

-- parts that have these lines, from a line on
abbrev pub parts_at : {A : Type 0} → (A → List Form) → (ℕ → A → A) → (at : ℕ) → List A
    → List A
parts_at lines part_at at [] = []
parts_at lines part_at at (x ∷ xs) =
    part_at at x ∷ parts_at lines part_at (at + length (lines x)) xs

-- statements; a line `else` stands before the second ones of an `if`, where it has some
abbrev mutual
  pub stmt_at : (at : ℕ) → PureStmt → PureStmt
  stmt_at at (SAssign line name index value) = SAssign at name index value
  stmt_at at (SIf line test first second) =
      SIf at test (stmts_at (at + 1) first)
      (stmts_at (at + 1 + length (stmts_lines first) + 1) second)
  stmt_at at (SFor line name from limit body) = SFor at name from limit (stmts_at (at + 1) body)
  stmt_at at (SNotify line event after) = SNotify at event after
  stmt_at at (SSetRate line name value) = SSetRate at name value
  stmt_at at (SSetStep line port step) = SSetStep at port step
  stmt_at at (SAccept line) = SAccept at
  stmt_at at (SReject line) = SReject at

  pub stmts_at : (at : ℕ) → PureStmts → PureStmts
  stmts_at at Done = Done
  stmts_at at (More s ss) = More (stmt_at at s) (stmts_at (at + length (stmt_lines s)) ss)

-- the line of a body's `end`, which is 0 where the body has no statement
abbrev pub end_at : (at : ℕ) → PureStmts → ℕ
end_at at Done = 0
end_at at (More s ss) = at + length (stmts_lines (More s ss))

-- a body, from its first statement on
abbrev pub body_at : (at : ℕ) → PureBody → PureBody
body_at at body = record { list = stmts_at at body.list; end = end_at at body.list }

abbrev pub type_at : (at : ℕ) → TypeDecl → TypeDecl
type_at at shape = record shape { line = at }

abbrev pub port_line_at : (at : ℕ) → PortLine → PortLine
port_line_at at port = record port { line = at }

abbrev pub store_at : (at : ℕ) → PureStore → PureStore
store_at at (SConst line name format value) = SConst at name format value
store_at at (SVar line name format value) = SVar at name format value
store_at at (SArray line name format size values) = SArray at name format size values

abbrev pub tdf_line_at : (at : ℕ) → PureTdfLine → PureTdfLine
tdf_line_at at (TPort port) = TPort (port_line_at at port)
tdf_line_at at (TStore store) = TStore (store_at at store)
tdf_line_at at (TRate line name least greatest start) = TRate at name least greatest start

abbrev pub attr_at : (at : ℕ) → Attr → Attr
attr_at at (attr.Step line port step) = attr.Step at port step
attr_at at (attr.Rate line port rate) = attr.Rate at port rate
attr_at at (attr.Delay line port count) = attr.Delay at port count
attr_at at (attr.Does line) = attr.Does at
attr_at at (attr.Accept line) = attr.Accept at
attr_at at (attr.Reject line) = attr.Reject at

abbrev pub initial_at : (at : ℕ) → Initial → Initial
initial_at at initial = record initial { line = at }

-- a `tdf` block: its head, its lines, and its parts, each behind its own head
abbrev pub tdf_at : (at : ℕ) → PureTdf → PureTdf
tdf_at at block =
    let attributes = at + 1 + length block.decls in
    let initialize = attributes + length (attributes_lines block.attrs) in
    let processing = initialize + length (initialize_lines block.initials block.initialize.list) in
    let change = processing + length (part_lines FProcessing block.processing.list) in
    let reinitialize = change + length (part_lines FChangeAttributes block.change.list) in
    record {
      line = at;
      name = block.name;
      decls = lines_at tdf_line_at (at + 1) block.decls;
      attrs = lines_at attr_at (attributes + 1) block.attrs;
      initials = lines_at initial_at (initialize + 1) block.initials;
      initialize = body_at (initialize + 1 + length block.initials) block.initialize;
      processing = body_at (processing + 1) block.processing;
      change = body_at (change + 1) block.change;
      reinitialize = body_at (reinitialize + 1) block.reinitialize;
    }

abbrev pub de_line_at : (at : ℕ) → PureDeLine → PureDeLine
de_line_at at (DPort port) = DPort (port_line_at at port)
de_line_at at (DStore store) = DStore (store_at at store)
de_line_at at (DEvent line name) = DEvent at name

abbrev pub sense_at : (at : ℕ) → Sense → Sense
sense_at at sense = record sense { line = at }

abbrev pub process_at : (at : ℕ) → PureProcess → PureProcess
process_at at process =
    let body = at + 1 + length process.sensitive + length (dont_lines process.starts) in
    record {
      line = at;
      sensitive = lines_at sense_at (at + 1) process.sensitive;
      starts = process.starts;
      body = body_at body process.body;
    }

abbrev pub de_at : (at : ℕ) → PureDe → PureDe
de_at at block = record {
  line = at;
  name = block.name;
  decls = lines_at de_line_at (at + 1) block.decls;
  processes = parts_at process_lines process_at (at + 1 + length block.decls) block.processes;
}

abbrev pub member_at : (at : ℕ) → Member → Member
member_at at (member.Port port) = member.Port (port_line_at at port)
member_at at (member.Signal line name format) = member.Signal at name format
member_at at (member.DeSignal line name format start) = member.DeSignal at name format start
member_at at (member.Instance line name block) = member.Instance at name block
member_at at (member.Bind line instance port target) = member.Bind at instance port target

abbrev pub composite_at : (at : ℕ) → PureComposite → PureComposite
composite_at at block =
    record { line = at; name = block.name; members = lines_at member_at (at + 1) block.members }

abbrev pub global_at : (at : ℕ) → PureGlobal → PureGlobal
global_at at (GShape shape) = GShape (type_at at shape)
global_at at (GTdf block) = GTdf (tdf_at at block)
global_at at (GDe block) = GDe (de_at at block)
global_at at (GNet block) = GNet (composite_at at block)

abbrev pub trace_at : (at : ℕ) → PureTrace → PureTrace
trace_at at trace = record trace { line = at }

-- the first line after those that say how the others are read: version 3 has two of them
abbrev pub line_after_head : Version → ℕ
line_after_head version = if has_resolution version then 3 else 2

-- the tree with the numbers of its canonical text
unfoldable pub numbered : PureTree → PureTree
numbered tree =
    let globals = line_after_head tree.version in
    let top = globals + length (flat_map global_lines tree.globals) in
    let traces = top + 1 + length tree.top.members + 1 in
    record {
      version = tree.version;
      resolution = tree.resolution;
      globals = parts_at global_lines global_at globals tree.globals;
      top = composite_at top tree.top;
      traces = lines_at trace_at traces tree.traces;
    }
