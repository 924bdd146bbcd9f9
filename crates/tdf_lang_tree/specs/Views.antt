-- Which pure tree a value of each type of `src/` stands for (own).
use Rattle.std.specs.Prelude.{List, [], ◌∷◌, map}
use Rattle.tdf_lang_tree.specs.Pure.{PureExpr, ENumber, EName, EAt, ECast, ESelect, ENot, ENeg, EShift, EBinary, PureStmt, SAssign, SIf, SFor, SNotify, SSetRate, SSetStep, SAccept, SReject, PureStmts, Done, More, PureBody, PureStore, SConst, SVar, SArray, PureTdfLine, TPort, TStore, TRate, PureTdf, PureDeLine, DPort, DStore, DEvent, PureProcess, PureDe, PureComposite, PureGlobal, GShape, GTdf, GDe, GNet, PureTrace, PureTree}
use Rattle.tdf_lang_tree.specs.declared.blocks.Composite.{Composite}
use Rattle.tdf_lang_tree.specs.declared.blocks.DeDecl.{DeDecl}
use Rattle.tdf_lang_tree.specs.declared.blocks.DeLine.{DeLine}
use Rattle.tdf_lang_tree.specs.declared.blocks.DeLine.TheVariants as de_line
use Rattle.tdf_lang_tree.specs.declared.blocks.Process.{Process}
use Rattle.tdf_lang_tree.specs.declared.blocks.Store.{Store}
use Rattle.tdf_lang_tree.specs.declared.blocks.Store.TheVariants as kept
use Rattle.tdf_lang_tree.specs.declared.blocks.TdfDecl.{TdfDecl}
use Rattle.tdf_lang_tree.specs.declared.blocks.TdfLine.{TdfLine}
use Rattle.tdf_lang_tree.specs.declared.blocks.TdfLine.TheVariants as tdf_line
use Rattle.tdf_lang_tree.specs.declared.expr.Expr.{Expr}
use Rattle.tdf_lang_tree.specs.declared.expr.Expr.TheVariants.{Number, Name, At, Cast', Select', Not', Neg', Shift', Binary'}
use Rattle.tdf_lang_tree.specs.declared.stmt.Stmt.{Stmt}
use Rattle.tdf_lang_tree.specs.declared.stmt.Stmt.TheOpen.{Stmt-F, Assign, If, For, Notify, SetRate, SetStep, Accept, Reject}
use Rattle.tdf_lang_tree.specs.declared.stmt.Stmt.TheFolds.{fold-Stmt}
use Rattle.tdf_lang_tree.specs.declared.stmt.Stmts.{Stmts}
use Rattle.tdf_lang_tree.specs.declared.tree.Global1.{Global1}
use Rattle.tdf_lang_tree.specs.declared.tree.Global1.TheVariants as global
use Rattle.tdf_lang_tree.specs.declared.tree.Trace1.{Trace1}
use Rattle.tdf_lang_tree.specs.declared.tree.Tree.{Tree}

abbrev pub pure_expr : Expr → PureExpr
pure_expr (Number digits) = ENumber digits
pure_expr (Name name) = EName name
pure_expr (At name index) = EAt name index
pure_expr (Cast' name p value) = ECast name (pure_expr value)
pure_expr (Select' p test q first r second) = ESelect (pure_expr test) (pure_expr first) (pure_expr second)
pure_expr (Not' p value) = ENot (pure_expr value)
pure_expr (Neg' p value) = ENeg (pure_expr value)
pure_expr (Shift' p value left bits) = EShift (pure_expr value) left bits
pure_expr (Binary' op p left q right) = EBinary op (pure_expr left) (pure_expr right)

-- statements one after another
abbrev pub sts : List PureStmt → PureStmts
sts [] = Done
sts (s ∷ ss) = More s (sts ss)

-- a statement, given those that it holds
abbrev pub stmt_step : Stmt-F PureStmt → PureStmt
stmt_step (Assign line name index value) = SAssign line name index (pure_expr value)
stmt_step (If line test first second) = SIf line (pure_expr test) (sts first.items) (sts second.items)
stmt_step (For line name from limit body) = SFor line name from limit (sts body.items)
stmt_step (Notify line event after) = SNotify line event after
stmt_step (SetRate line name value) = SSetRate line name (pure_expr value)
stmt_step (SetStep line port step) = SSetStep line port step
stmt_step (Accept line) = SAccept line
stmt_step (Reject line) = SReject line

unfoldable pub pure_stmt : Stmt → PureStmt
pure_stmt = fold-Stmt PureStmt stmt_step

abbrev pub pure_stmts : List Stmt → PureStmts
pure_stmts list = sts (map pure_stmt list)

abbrev pub pure_body : Stmts → PureBody
pure_body body = record { list = pure_stmts body.list.items; end = body.end }

abbrev pub pure_store : Store → PureStore
pure_store (kept.Const line name format value) = SConst line name format value
pure_store (kept.Var line name format value) = SVar line name format value
pure_store (kept.Array line name format size values) = SArray line name format size values.items

abbrev pub pure_tdf_line : TdfLine → PureTdfLine
pure_tdf_line (tdf_line.Port port) = TPort port
pure_tdf_line (tdf_line.Store store) = TStore (pure_store store)
pure_tdf_line (tdf_line.Rate line name least greatest start) = TRate line name least greatest start

abbrev pub pure_tdf : TdfDecl → PureTdf
pure_tdf block = record {
  line = block.line;
  name = block.name;
  decls = map pure_tdf_line block.decls.items;
  attrs = block.attrs.items;
  initials = block.initials.items;
  initialize = pure_body block.initialize;
  processing = pure_body block.processing;
  change = pure_body block.change;
  reinitialize = pure_body block.reinitialize;
}

abbrev pub pure_de_line : DeLine → PureDeLine
pure_de_line (de_line.Port port) = DPort port
pure_de_line (de_line.Store store) = DStore (pure_store store)
pure_de_line (de_line.Event line name) = DEvent line name

abbrev pub pure_process : Process → PureProcess
pure_process process = record {
  line = process.line;
  sensitive = process.sensitive.items;
  starts = process.starts;
  body = pure_body process.body;
}

abbrev pub pure_de : DeDecl → PureDe
pure_de block = record {
  line = block.line;
  name = block.name;
  decls = map pure_de_line block.decls.items;
  processes = map pure_process block.processes.items;
}

abbrev pub pure_composite : Composite → PureComposite
pure_composite block = record { line = block.line; name = block.name; members = block.members.items }

abbrev pub pure_global : Global1 → PureGlobal
pure_global (global.Shape shape) = GShape shape
pure_global (global.Tdf block) = GTdf (pure_tdf block)
pure_global (global.De block) = GDe (pure_de block)
pure_global (global.Net block) = GNet (pure_composite block)

abbrev pub pure_trace : Trace1 → PureTrace
pure_trace trace = record { line = trace.line; path = trace.path.items; label = trace.label }

abbrev pub pure_tree : Tree → PureTree
pure_tree whole = record {
  version = whole.version;
  resolution = whole.resolution;
  globals = map pure_global whole.globals.items;
  top = pure_composite whole.top;
  traces = map pure_trace whole.traces.items;
}
