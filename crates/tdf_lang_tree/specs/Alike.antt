-- Trees without line numbers (own): two trees are alike where they differ in line numbers alone.
use Rattle.std.specs.Prelude.{◌≡◌, map}
use Rattle.tdf_lang_tree.specs.Pure.{PureStmt, SAssign, SIf, SFor, SNotify, SSetRate, SSetStep, SAccept, SReject, PureStmts, Done, More, PureBody, PureStore, SConst, SVar, SArray, PureTdfLine, TPort, TStore, TRate, PureTdf, PureDeLine, DPort, DStore, DEvent, PureProcess, PureDe, PureComposite, PureGlobal, GShape, GTdf, GDe, GNet, PureTrace, PureTree}
use Rattle.tdf_lang_tree.specs.declared.blocks.Attr.{Attr}
use Rattle.tdf_lang_tree.specs.declared.blocks.Attr.TheVariants as attr
use Rattle.tdf_lang_tree.specs.declared.blocks.Initial.{Initial}
use Rattle.tdf_lang_tree.specs.declared.blocks.Member.{Member}
use Rattle.tdf_lang_tree.specs.declared.blocks.Member.TheVariants as member
use Rattle.tdf_lang_tree.specs.declared.blocks.PortLine.{PortLine}
use Rattle.tdf_lang_tree.specs.declared.blocks.Sense.{Sense}
use Rattle.tdf_lang_tree.specs.declared.shapes.TypeDecl.{TypeDecl}

abbrev mutual
  pub bare_stmt : PureStmt → PureStmt
  bare_stmt (SAssign line name index value) = SAssign 0 name index value
  bare_stmt (SIf line test first second) = SIf 0 test (bare_stmts first) (bare_stmts second)
  bare_stmt (SFor line name from limit body) = SFor 0 name from limit (bare_stmts body)
  bare_stmt (SNotify line event after) = SNotify 0 event after
  bare_stmt (SSetRate line name value) = SSetRate 0 name value
  bare_stmt (SSetStep line port step) = SSetStep 0 port step
  bare_stmt (SAccept line) = SAccept 0
  bare_stmt (SReject line) = SReject 0

  pub bare_stmts : PureStmts → PureStmts
  bare_stmts Done = Done
  bare_stmts (More s ss) = More (bare_stmt s) (bare_stmts ss)

abbrev pub bare_body : PureBody → PureBody
bare_body body = record { list = bare_stmts body.list; end = 0 }

abbrev pub bare_type : TypeDecl → TypeDecl
bare_type shape = record shape { line = 0 }

abbrev pub bare_port : PortLine → PortLine
bare_port port = record port { line = 0 }

abbrev pub bare_store : PureStore → PureStore
bare_store (SConst line name format value) = SConst 0 name format value
bare_store (SVar line name format value) = SVar 0 name format value
bare_store (SArray line name format size values) = SArray 0 name format size values

abbrev pub bare_tdf_line : PureTdfLine → PureTdfLine
bare_tdf_line (TPort port) = TPort (bare_port port)
bare_tdf_line (TStore store) = TStore (bare_store store)
bare_tdf_line (TRate line name least greatest start) = TRate 0 name least greatest start

abbrev pub bare_attr : Attr → Attr
bare_attr (attr.Step line port step) = attr.Step 0 port step
bare_attr (attr.Rate line port rate) = attr.Rate 0 port rate
bare_attr (attr.Delay line port count) = attr.Delay 0 port count
bare_attr (attr.Does line) = attr.Does 0
bare_attr (attr.Accept line) = attr.Accept 0
bare_attr (attr.Reject line) = attr.Reject 0

abbrev pub bare_initial : Initial → Initial
bare_initial initial = record initial { line = 0 }

abbrev pub bare_tdf : PureTdf → PureTdf
bare_tdf block = record {
  line = 0;
  name = block.name;
  decls = map bare_tdf_line block.decls;
  attrs = map bare_attr block.attrs;
  initials = map bare_initial block.initials;
  initialize = bare_body block.initialize;
  processing = bare_body block.processing;
  change = bare_body block.change;
  reinitialize = bare_body block.reinitialize;
}

abbrev pub bare_de_line : PureDeLine → PureDeLine
bare_de_line (DPort port) = DPort (bare_port port)
bare_de_line (DStore store) = DStore (bare_store store)
bare_de_line (DEvent line name) = DEvent 0 name

abbrev pub bare_sense : Sense → Sense
bare_sense sense = record sense { line = 0 }

abbrev pub bare_process : PureProcess → PureProcess
bare_process process = record {
  line = 0;
  sensitive = map bare_sense process.sensitive;
  starts = process.starts;
  body = bare_body process.body;
}

abbrev pub bare_de : PureDe → PureDe
bare_de block = record {
  line = 0;
  name = block.name;
  decls = map bare_de_line block.decls;
  processes = map bare_process block.processes;
}

abbrev pub bare_member : Member → Member
bare_member (member.Port port) = member.Port (bare_port port)
bare_member (member.Signal line name format) = member.Signal 0 name format
bare_member (member.DeSignal line name format start) = member.DeSignal 0 name format start
bare_member (member.Instance line name block) = member.Instance 0 name block
bare_member (member.Bind line instance port target) = member.Bind 0 instance port target

abbrev pub bare_composite : PureComposite → PureComposite
bare_composite block = record { line = 0; name = block.name; members = map bare_member block.members }

abbrev pub bare_global : PureGlobal → PureGlobal
bare_global (GShape shape) = GShape (bare_type shape)
bare_global (GTdf block) = GTdf (bare_tdf block)
bare_global (GDe block) = GDe (bare_de block)
bare_global (GNet block) = GNet (bare_composite block)

abbrev pub bare_trace : PureTrace → PureTrace
bare_trace trace = record trace { line = 0 }

abbrev pub bare : PureTree → PureTree
bare tree = record {
  version = tree.version;
  resolution = tree.resolution;
  globals = map bare_global tree.globals;
  top = bare_composite tree.top;
  traces = map bare_trace tree.traces;
}

abbrev pub Alike : PureTree → PureTree → Type 0
Alike x y = bare x ≡ bare y
