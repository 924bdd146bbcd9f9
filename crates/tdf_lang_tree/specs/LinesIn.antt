-- The line numbers that a tree holds, in the order of its parts, and that they rise (own): what is declared first has the lesser
-- number, and no two lines have one number.
use Rattle.std.specs.Prelude.{ℕ, List, [], ◌∷◌, ◌++◌, flat_map, map}
use Rattle.std.specs.List.Sorted.{IsStrictlyIncreasing}
use Rattle.tdf_lang_tree.specs.Pure.{PureStmt, SAssign, SIf, SFor, SNotify, SSetRate, SSetStep, SAccept, SReject, PureStmts, Done, More, PureBody, PureStore, SConst, SVar, SArray, PureTdfLine, TPort, TStore, TRate, PureTdf, PureDeLine, DPort, DStore, DEvent, PureProcess, PureDe, PureComposite, PureGlobal, GShape, GTdf, GDe, GNet, PureTrace, PureTree}
use Rattle.tdf_lang_tree.specs.declared.blocks.Attr.{Attr}
use Rattle.tdf_lang_tree.specs.declared.blocks.Attr.TheVariants as attr
use Rattle.tdf_lang_tree.specs.declared.blocks.Initial.{Initial}
use Rattle.tdf_lang_tree.specs.declared.blocks.Member.{Member}
use Rattle.tdf_lang_tree.specs.declared.blocks.Member.TheVariants as member
use Rattle.tdf_lang_tree.specs.declared.blocks.Sense.{Sense}

abbrev mutual
  pub lines_of_stmt : PureStmt → List ℕ
  lines_of_stmt (SAssign line name i x) = line ∷ []
  lines_of_stmt (SIf line x first second) = line ∷ (lines_of_stmts first ++ lines_of_stmts second)
  lines_of_stmt (SFor line name from l body) = line ∷ lines_of_stmts body
  lines_of_stmt (SNotify line event after) = line ∷ []
  lines_of_stmt (SSetRate line name x) = line ∷ []
  lines_of_stmt (SSetStep line port step) = line ∷ []
  lines_of_stmt (SAccept line) = line ∷ []
  lines_of_stmt (SReject line) = line ∷ []

  pub lines_of_stmts : PureStmts → List ℕ
  lines_of_stmts Done = []
  lines_of_stmts (More s ss) = lines_of_stmt s ++ lines_of_stmts ss

-- a body's statements and its `end`; a body without a statement has no line
abbrev pub lines_to_end : PureStmts → ℕ → List ℕ
lines_to_end Done end = []
lines_to_end (More s ss) end = lines_of_stmts (More s ss) ++ end ∷ []

abbrev pub lines_of_body : PureBody → List ℕ
lines_of_body body = lines_to_end body.list body.end

abbrev pub line_of_store : PureStore → ℕ
line_of_store (SConst line name x v) = line
line_of_store (SVar line name x v) = line
line_of_store (SArray line name x size vs) = line

abbrev pub line_of_tdf_line : PureTdfLine → ℕ
line_of_tdf_line (TPort port) = port.line
line_of_tdf_line (TStore store) = line_of_store store
line_of_tdf_line (TRate line name least greatest start) = line

abbrev pub line_of_attr : Attr → ℕ
line_of_attr (attr.Step line port step) = line
line_of_attr (attr.Rate line port rate) = line
line_of_attr (attr.Delay line port count) = line
line_of_attr (attr.Does line) = line
line_of_attr (attr.Accept line) = line
line_of_attr (attr.Reject line) = line

abbrev pub line_of_initial : Initial → ℕ
line_of_initial x = x.line

abbrev pub line_of_sense : Sense → ℕ
line_of_sense x = x.line

abbrev pub line_of_de_line : PureDeLine → ℕ
line_of_de_line (DPort port) = port.line
line_of_de_line (DStore store) = line_of_store store
line_of_de_line (DEvent line name) = line

abbrev pub line_of_member : Member → ℕ
line_of_member (member.Port port) = port.line
line_of_member (member.Signal line name x) = line
line_of_member (member.DeSignal line name x start) = line
line_of_member (member.Instance line name block) = line
line_of_member (member.Bind line instance port target) = line

abbrev pub line_of_trace : PureTrace → ℕ
line_of_trace trace = trace.line

abbrev pub lines_of_tdf : PureTdf → List ℕ
lines_of_tdf b = b.line ∷ (map line_of_tdf_line b.decls ++ (map line_of_attr b.attrs ++ (map line_of_initial b.initials
    ++ (lines_of_body b.initialize ++ (lines_of_body b.processing ++ (lines_of_body b.change ++ lines_of_body b.reinitialize))))))

abbrev pub lines_of_process : PureProcess → List ℕ
lines_of_process p = p.line ∷ (map line_of_sense p.sensitive ++ lines_of_body p.body)

abbrev pub lines_of_de : PureDe → List ℕ
lines_of_de b = b.line ∷ (map line_of_de_line b.decls ++ flat_map lines_of_process b.processes)

abbrev pub lines_of_composite : PureComposite → List ℕ
lines_of_composite b = b.line ∷ map line_of_member b.members

abbrev pub lines_of_global : PureGlobal → List ℕ
lines_of_global (GShape t) = t.line ∷ []
lines_of_global (GTdf block) = lines_of_tdf block
lines_of_global (GDe block) = lines_of_de block
lines_of_global (GNet block) = lines_of_composite block

abbrev pub lines_in : PureTree → List ℕ
lines_in tree = flat_map lines_of_global tree.globals ++ (lines_of_composite tree.top ++ map line_of_trace tree.traces)

-- the lines of a tree stand in order
abbrev pub HasLinesInOrder : PureTree → Type 0
HasLinesInOrder tree = IsStrictlyIncreasing (lines_in tree)
