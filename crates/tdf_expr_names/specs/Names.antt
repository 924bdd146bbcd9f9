-- The faults of names (own): each line that declares a name that its name space holds already
-- (DUPLICATE), and each line that uses a name that is not in force there (UNKNOWN).
--
-- The names in force on a line are two lists. `globals` are the types and blocks that were declared
-- before; `locals` are the names that the block declared on earlier lines, and the loop variables
-- around the line. A format, a cast and the block of an instance use global names, all else uses
-- locals. The port after the `.` of a `bind` line and the path of a `trace` line are not looked up
-- here: they are found when a model is bound.
use Rattle.std.specs.Cmp.Lexicographic.{pointwise}
use Rattle.std.specs.List.{flat_map, list_any}
use Rattle.std.specs.Prelude.{ℕ, Bool, not, nat_eq, if◌then◌else◌, List, [], ◌∷◌, ◌++◌, Option, Some, None}
use Rattle.tdf_base.specs.declared.codes.Code.TheVariants.{Duplicate, Unknown}
use Rattle.tdf_base.specs.First.{fault_if}
use Rattle.tdf_base.specs.declared.first.LineFault.{LineFault}
use Rattle.tdf_lang_tree.specs.Pure.{PureExpr, ENumber, EName, EAt, ECast, ESelect, ENot, ENeg, EShift, EBinary, PureStmt, SAssign, SIf, SFor, SNotify, SSetRate, SSetStep, SAccept, SReject, PureStmts, Done, More, PureStore, SConst, SVar, SArray, PureTdfLine, TPort, TStore, TRate, PureTdf, PureDeLine, DPort, DStore, DEvent, PureProcess, PureDe, PureComposite, PureGlobal, GShape, GTdf, GDe, GNet, PureTrace, PureTree}
use Rattle.tdf_lang_tree.specs.declared.blocks.Attr.{Attr}
use Rattle.tdf_lang_tree.specs.declared.blocks.Attr.TheVariants as attr
use Rattle.tdf_lang_tree.specs.declared.blocks.Initial.{Initial}
use Rattle.tdf_lang_tree.specs.declared.blocks.Member.{Member}
use Rattle.tdf_lang_tree.specs.declared.blocks.Member.TheVariants as member
use Rattle.tdf_lang_tree.specs.declared.blocks.PortLine.{PortLine}
use Rattle.tdf_lang_tree.specs.declared.blocks.Sense.{Sense}
use Rattle.tdf_lang_tree.specs.declared.expr.Index.{Index}
use Rattle.tdf_lang_tree.specs.declared.expr.Index.TheVariants as index
use Rattle.tdf_lang_tree.specs.declared.shapes.FormatRef.{FormatRef}
use Rattle.tdf_lang_tree.specs.declared.shapes.FormatRef.TheVariants.{Own, Named}
use Rattle.tdf_lang_tree.specs.declared.stmt.Limit.{Limit}
use Rattle.tdf_lang_tree.specs.declared.stmt.Limit.TheVariants as limit

-- a name, by its bytes
abbrev pub Name : Type 0
Name = List ℕ

abbrev pub has : List Name → Name → Bool
has names name = list_any (pointwise nat_eq name) names

-- these names and one more, which changes nothing where it is one of them
abbrev pub with_declared : List Name → Name → List Name
with_declared names name = if has names name then names else names ++ name ∷ []

abbrev pub with_names : List Name → List Name → List Name
with_names names [] = names
with_names names (name ∷ more) = with_names (with_declared names name) more

-- a line declares a name in a name space that holds these
abbrev pub declares : List Name → ℕ → Name → List LineFault
declares names line name = fault_if (has names name) Duplicate line

-- a line uses a name where these are in force
abbrev pub uses : List Name → ℕ → Name → List LineFault
uses names line name = fault_if (not (has names name)) Unknown line

abbrev pub uses_maybe : List Name → ℕ → Option Name → List LineFault
uses_maybe names line None = []
uses_maybe names line (Some name) = uses names line name

-- lines in their order: what each declares is in force on the lines after it
abbrev pub in_order : {L : Type 0} → (List Name → L → List LineFault) → (L → List Name)
    → List Name → List L → List LineFault
in_order faults declared names [] = []
in_order faults declared names (line ∷ lines) =
    faults names line ++ in_order faults declared (with_names names (declared line)) lines

-- Expressions

abbrev pub index_name_faults : (locals : List Name) → ℕ → Index → List LineFault
index_name_faults locals line (index.Int n) = []
index_name_faults locals line (index.Var i) = uses locals line i
index_name_faults locals line (index.Plus i n) = uses locals line i
index_name_faults locals line (index.Minus i n) = uses locals line i
index_name_faults locals line (index.From n i) = uses locals line i
index_name_faults locals line (index.Times n i) = uses locals line i
index_name_faults locals line (index.TimesPlus n i m) = uses locals line i

abbrev pub item_faults : (locals : List Name) → ℕ → Option Index → List LineFault
item_faults locals line None = []
item_faults locals line (Some i) = index_name_faults locals line i

abbrev pub limit_name_faults : (locals : List Name) → ℕ → Limit → List LineFault
limit_name_faults locals line (limit.Int n) = []
limit_name_faults locals line (limit.Var name) = uses locals line name
limit_name_faults locals line (limit.Times n name) = uses locals line name

abbrev pub expr_name_faults : (globals locals : List Name) → ℕ → PureExpr → List LineFault
expr_name_faults globals locals line (ENumber digits) = []
expr_name_faults globals locals line (EName name) = uses locals line name
expr_name_faults globals locals line (EAt name i) =
    uses locals line name ++ index_name_faults locals line i
expr_name_faults globals locals line (ECast name a) =
    uses globals line name ++ expr_name_faults globals locals line a
expr_name_faults globals locals line (ESelect test a b) = expr_name_faults globals locals line test
    ++ (expr_name_faults globals locals line a ++ expr_name_faults globals locals line b)
expr_name_faults globals locals line (ENot a) = expr_name_faults globals locals line a
expr_name_faults globals locals line (ENeg a) = expr_name_faults globals locals line a
expr_name_faults globals locals line (EShift a left n) = expr_name_faults globals locals line a
expr_name_faults globals locals line (EBinary op a b) =
    expr_name_faults globals locals line a ++ expr_name_faults globals locals line b

-- Statements: a loop's limit is looked up before its variable, which is in force in its body alone

abbrev mutual
  pub stmt_faults : (globals locals : List Name) → PureStmt → List LineFault
  stmt_faults globals locals (SAssign line name i value) = uses locals line name
      ++ (item_faults locals line i ++ expr_name_faults globals locals line value)
  stmt_faults globals locals (SIf line test a b) = expr_name_faults globals locals line test
      ++ (stmts_faults globals locals a ++ stmts_faults globals locals b)
  stmt_faults globals locals (SFor line name from end body) = limit_name_faults locals line end
      ++ (declares locals line name ++ stmts_faults globals (with_declared locals name) body)
  stmt_faults globals locals (SNotify line event after) = uses locals line event
  stmt_faults globals locals (SSetRate line name value) =
      uses locals line name ++ expr_name_faults globals locals line value
  stmt_faults globals locals (SSetStep line port step) = uses_maybe locals line port
  stmt_faults globals locals (SAccept line) = []
  stmt_faults globals locals (SReject line) = []

  pub stmts_faults : (globals locals : List Name) → PureStmts → List LineFault
  stmts_faults globals locals Done = []
  stmts_faults globals locals (More s ss) =
      stmt_faults globals locals s ++ stmts_faults globals locals ss

-- Lines that declare

abbrev pub format_name_faults : (globals : List Name) → ℕ → FormatRef → List LineFault
format_name_faults globals line (Own shape) = []
format_name_faults globals line (Named name) = uses globals line name

-- a line that declares a name of a format
abbrev pub formatted_faults : (globals locals : List Name) → ℕ → Name → FormatRef → List LineFault
formatted_faults globals locals line name format =
    declares locals line name ++ format_name_faults globals line format

abbrev pub port_faults : (globals locals : List Name) → PortLine → List LineFault
port_faults globals locals port = formatted_faults globals locals port.line port.name port.format

abbrev pub store_name_faults : (globals locals : List Name) → PureStore → List LineFault
store_name_faults globals locals (SConst line name format value) =
    formatted_faults globals locals line name format
store_name_faults globals locals (SVar line name format value) =
    formatted_faults globals locals line name format
store_name_faults globals locals (SArray line name format size values) =
    formatted_faults globals locals line name format

abbrev pub name_of_store : PureStore → Name
name_of_store (SConst line name format value) = name
name_of_store (SVar line name format value) = name
name_of_store (SArray line name format size values) = name

-- `tdf` blocks

abbrev pub tdf_line_name_faults : (globals locals : List Name) → PureTdfLine → List LineFault
tdf_line_name_faults globals locals (TPort port) = port_faults globals locals port
tdf_line_name_faults globals locals (TStore store) = store_name_faults globals locals store
tdf_line_name_faults globals locals (TRate line name least greatest start) =
    declares locals line name

abbrev pub names_of_tdf_line : PureTdfLine → List Name
names_of_tdf_line (TPort port) = port.name ∷ []
names_of_tdf_line (TStore store) = name_of_store store ∷ []
names_of_tdf_line (TRate line name least greatest start) = name ∷ []

abbrev pub tdf_lines_faults : (globals locals : List Name) → List PureTdfLine → List LineFault
tdf_lines_faults globals = in_order (tdf_line_name_faults globals) names_of_tdf_line

abbrev pub names_of_tdf_lines : List PureTdfLine → List Name
names_of_tdf_lines lines = flat_map names_of_tdf_line lines

abbrev pub attr_name_faults : (locals : List Name) → Attr → List LineFault
attr_name_faults locals (attr.Step line port step) = uses_maybe locals line port
attr_name_faults locals (attr.Rate line port rate) =
    uses locals line port ++ limit_name_faults locals line rate
attr_name_faults locals (attr.Delay line port count) = uses locals line port
attr_name_faults locals (attr.Does line) = []
attr_name_faults locals (attr.Accept line) = []
attr_name_faults locals (attr.Reject line) = []

abbrev pub initial_name_faults : (locals : List Name) → Initial → List LineFault
initial_name_faults locals initial = uses locals initial.line initial.port

-- the parts of a block, once its lines have declared their names
abbrev pub parts_faults : (globals locals : List Name) → PureTdf → List LineFault
parts_faults globals locals block = flat_map (attr_name_faults locals) block.attrs
    ++ (flat_map (initial_name_faults locals) block.initials
    ++ (stmts_faults globals locals block.initialize.list
    ++ (stmts_faults globals locals block.processing.list
    ++ (stmts_faults globals locals block.change.list
    ++ stmts_faults globals locals block.reinitialize.list))))

abbrev pub tdf_name_faults : (globals : List Name) → PureTdf → List LineFault
tdf_name_faults globals block = tdf_lines_faults globals [] block.decls
    ++ parts_faults globals (with_names [] (names_of_tdf_lines block.decls)) block

-- `de` blocks

abbrev pub de_line_name_faults : (globals locals : List Name) → PureDeLine → List LineFault
de_line_name_faults globals locals (DPort port) = port_faults globals locals port
de_line_name_faults globals locals (DStore store) = store_name_faults globals locals store
de_line_name_faults globals locals (DEvent line name) = declares locals line name

abbrev pub names_of_de_line : PureDeLine → List Name
names_of_de_line (DPort port) = port.name ∷ []
names_of_de_line (DStore store) = name_of_store store ∷ []
names_of_de_line (DEvent line name) = name ∷ []

abbrev pub de_lines_faults : (globals locals : List Name) → List PureDeLine → List LineFault
de_lines_faults globals = in_order (de_line_name_faults globals) names_of_de_line

abbrev pub names_of_de_lines : List PureDeLine → List Name
names_of_de_lines lines = flat_map names_of_de_line lines

abbrev pub sense_name_faults : (locals : List Name) → Sense → List LineFault
sense_name_faults locals sense = uses locals sense.line sense.name

abbrev pub process_name_faults : (globals locals : List Name) → PureProcess → List LineFault
process_name_faults globals locals process = flat_map (sense_name_faults locals) process.sensitive
    ++ stmts_faults globals locals process.body.list

abbrev pub processes_faults : (globals locals : List Name) → List PureProcess → List LineFault
processes_faults globals locals processes = flat_map (process_name_faults globals locals) processes

abbrev pub de_name_faults : (globals : List Name) → PureDe → List LineFault
de_name_faults globals block = de_lines_faults globals [] block.decls
    ++ processes_faults globals (with_names [] (names_of_de_lines block.decls)) block.processes

-- `composite` blocks and `top`

abbrev pub member_name_faults : (globals locals : List Name) → Member → List LineFault
member_name_faults globals locals (member.Port port) = port_faults globals locals port
member_name_faults globals locals (member.Signal line name format) =
    formatted_faults globals locals line name format
member_name_faults globals locals (member.DeSignal line name format start) =
    formatted_faults globals locals line name format
member_name_faults globals locals (member.Instance line name block) =
    declares locals line name ++ uses globals line block
member_name_faults globals locals (member.Bind line instance port target) =
    uses locals line instance ++ uses locals line target

abbrev pub names_of_member : Member → List Name
names_of_member (member.Port port) = port.name ∷ []
names_of_member (member.Signal line name format) = name ∷ []
names_of_member (member.DeSignal line name format start) = name ∷ []
names_of_member (member.Instance line name block) = name ∷ []
names_of_member (member.Bind line instance port target) = []

abbrev pub members_faults : (globals locals : List Name) → List Member → List LineFault
members_faults globals = in_order (member_name_faults globals) names_of_member

abbrev pub composite_name_faults : (globals : List Name) → PureComposite → List LineFault
composite_name_faults globals block = members_faults globals [] block.members

-- The whole model: a block's name comes into force after the block, so it is unknown inside

abbrev pub global_name_faults : (globals : List Name) → PureGlobal → List LineFault
global_name_faults globals (GShape shape) = declares globals shape.line shape.name
global_name_faults globals (GTdf block) =
    declares globals block.line block.name ++ tdf_name_faults globals block
global_name_faults globals (GDe block) =
    declares globals block.line block.name ++ de_name_faults globals block
global_name_faults globals (GNet block) =
    declares globals block.line block.name ++ composite_name_faults globals block

abbrev pub names_of_global : PureGlobal → List Name
names_of_global (GShape shape) = shape.name ∷ []
names_of_global (GTdf block) = block.name ∷ []
names_of_global (GDe block) = block.name ∷ []
names_of_global (GNet block) = block.name ∷ []

abbrev pub globals_faults : (globals : List Name) → List PureGlobal → List LineFault
globals_faults = in_order global_name_faults names_of_global

abbrev pub names_of_globals : List PureGlobal → List Name
names_of_globals list = flat_map names_of_global list

abbrev pub trace_faults : (labels : List Name) → PureTrace → List LineFault
trace_faults labels trace = declares labels trace.line trace.label

abbrev pub names_of_trace : PureTrace → List Name
names_of_trace trace = trace.label ∷ []

abbrev pub traces_name_faults : (labels : List Name) → List PureTrace → List LineFault
traces_name_faults = in_order trace_faults names_of_trace

-- all faults of names of a model: `top` sees all global names, and declares none
unfoldable pub name_faults : PureTree → List LineFault
name_faults tree = globals_faults [] tree.globals
    ++ (composite_name_faults (with_names [] (names_of_globals tree.globals)) tree.top
    ++ traces_name_faults [] tree.traces)
