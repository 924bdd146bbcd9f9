-- The block that drives signals from the columns of a table. It counts its runs: each of its events
-- comes once, at the time of its row, and the process then gives each port the element of its array
-- that has the number of the run.
-- Source: own.
use Rattle.std.specs.Fmt.{decimal}
use Rattle.std.specs.List.{range_with_len}
use Rattle.std.specs.Prelude.{ℕ, ◌+◌, ◌-◌, ◌/◌, true, false, nat_eq, if◌then◌else◌, List, [], ◌∷◌, ◌++◌, map, length, drop, None, codes}
use Rattle.tdf_base.specs.Time.{femtoseconds_in}
use Rattle.tdf_base.specs.declared.resolution.Resolution.{Resolution}
use Rattle.tdf_lang_tree.specs.Pure.{PureExpr, ENumber, EName, EAt, EBinary, PureStmt, SAssign, SIf, SFor, SNotify, PureStmts, Done, More, PureDeLine, DPort, DStore, DEvent, PureProcess, PureDe, SVar, SArray}
use Rattle.tdf_lang_tree.specs.Views.{sts}
use Rattle.tdf_lang_tree.specs.declared.blocks.Member.{Member}
use Rattle.tdf_lang_tree.specs.declared.blocks.Member.TheVariants as member
use Rattle.tdf_lang_tree.specs.declared.blocks.PortKind.TheVariants.{DeOut}
use Rattle.tdf_lang_tree.specs.declared.blocks.Sense.{Sense}
use Rattle.tdf_lang_tree.specs.declared.expr.Index.TheVariants.{Var}
use Rattle.tdf_lang_tree.specs.declared.expr.Op.TheVariants.{Add, Eq}
use Rattle.tdf_lang_tree.specs.declared.names.Lit.{Lit}
use Rattle.tdf_lang_tree.specs.declared.shapes.FormatRef.TheVariants.{Own}
use Rattle.tdf_lang_tree.specs.declared.stmt.Limit.TheVariants.{Int}
use Rattle.tdf_stim.specs.Signals.{Column, count_shape}

-- a letter or more with a number behind
abbrev pub name_with : (letters : List ℕ) → (number : ℕ) → List ℕ
name_with letters number = letters ++ decimal number

abbrev pub port_name : ℕ → List ℕ
port_name j = name_with (codes "q") j

abbrev pub array_name : ℕ → List ℕ
array_name j = name_with (codes "a") j

abbrev pub event_name : ℕ → List ℕ
event_name i = name_with (codes "e") i

-- a cell as a literal; `*` stands for the cell above it
abbrev pub cell_literal : (above : Lit) → (cell : List ℕ) → Lit
cell_literal above [] = above
cell_literal above (c ∷ cs) = if nat_eq c 42 then above
    else if nat_eq c 45 then record { minus = true; digits = cs }
    else record { minus = false; digits = c ∷ cs }

-- the literals of a column; above its first cell stands the starting literal
unfoldable pub literals : (above : Lit) → List (List ℕ) → List Lit
literals above [] = []
literals above (cell ∷ cells) = cell_literal above cell ∷ literals (cell_literal above cell) cells

-- `de_out qJ SHAPE` and `array aJ SHAPE N LIT ..`
abbrev pub column_lines : (j : ℕ) → Column → List PureDeLine
column_lines j column =
    DPort (record { line = 0; kind = DeOut; name = port_name j; format = Own column.shape })
    ∷ (DStore (SArray 0 (array_name j) (Own column.shape) (length column.cells)
    (literals column.start column.cells)) ∷ [])

unfoldable pub columns_lines : (j : ℕ) → List Column → List PureDeLine
columns_lines j [] = []
columns_lines j (column ∷ columns) = column_lines j column ++ columns_lines (j + 1) columns

-- `var k fixed 16 16`
abbrev pub count_line : PureDeLine
count_line =
    DStore (SVar 0 (codes "k") (Own count_shape) (record { minus = false; digits = codes "0" }))

-- the numbers of the events: one for each row but the first
abbrev pub event_numbers : (rows : ℕ) → List ℕ
event_numbers rows = range_with_len 1 (rows - 1)

abbrev pub event_line : ℕ → PureDeLine
event_line i = DEvent 0 (event_name i)

abbrev pub event_sense : ℕ → Sense
event_sense i = record { line = 0; name = event_name i }

-- a time in fs as a count of a resolution
abbrev pub counts : Resolution → (time : ℕ) → ℕ
counts unit time = time / femtoseconds_in unit

-- `notify eI after TIME` for these counts, from event i on
abbrev pub notify : (i time : ℕ) → PureStmt
notify i time = SNotify 0 (event_name i) time

unfoldable pub notify_lines : (i : ℕ) → List ℕ → List PureStmt
notify_lines i [] = []
notify_lines i (time ∷ times) = notify i time ∷ notify_lines (i + 1) times

-- `qJ = aJ[i]`
abbrev pub assign : (j : ℕ) → PureStmt
assign j = SAssign 0 (port_name j) None (EAt (array_name j) (Var (codes "i")))

-- a test whether `k` equals something
abbrev pub is_count : PureExpr → PureExpr
is_count other = EBinary Eq (EName (codes "k")) other

-- `if k == 0`, with the notifications
abbrev pub first_run : (times : List ℕ) → PureStmt
first_run times = SIf 0 (is_count (ENumber (codes "0"))) (sts (notify_lines 1 (drop 1 times))) Done

-- `if k == i`, with the assignments
abbrev pub one_run : (columns : ℕ) → PureStmt
one_run columns =
    SIf 0 (is_count (EName (codes "i"))) (sts (map assign (range_with_len 0 columns))) Done

-- `for i 0 N`
abbrev pub each_run : (rows columns : ℕ) → PureStmt
each_run rows columns = SFor 0 (codes "i") 0 (Int rows) (More (one_run columns) Done)

-- `k = k + 1`
abbrev pub count_up : PureStmt
count_up = SAssign 0 (codes "k") None (EBinary Add (EName (codes "k")) (ENumber (codes "1")))

-- the body, for the rows at these counts
abbrev pub driver_body : (columns : ℕ) → (times : List ℕ) → PureStmts
driver_body columns times =
    More (first_run times) (More (each_run (length times) columns) (More count_up Done))

abbrev pub driver_process : (columns : ℕ) → (times : List ℕ) → PureProcess
driver_process columns times = record {
  line = 0;
  sensitive = map event_sense (event_numbers (length times));
  starts = true;
  body = record { list = driver_body columns times; end = 0 };
}

-- the block, without numbers of lines
abbrev pub driver_block : (name : List ℕ) → List Column → (times : List ℕ) → PureDe
driver_block name columns times = record {
  line = 0;
  name = name;
  decls = columns_lines 0 columns ++ (count_line ∷ map event_line (event_numbers (length times)));
  processes = driver_process (length columns) times ∷ [];
}

-- `bind NAME.qJ LABEL`
abbrev pub bind_line : (name : List ℕ) → (j : ℕ) → (label : List ℕ) → Member
bind_line name j label = member.Bind 0 name (port_name j) label

unfoldable pub bind_lines : (name : List ℕ) → (j : ℕ) → (labels : List (List ℕ)) → List Member
bind_lines name j [] = []
bind_lines name j (label ∷ labels) = bind_line name j label ∷ bind_lines name (j + 1) labels

-- the instance of the block, which has its name, and its `bind` lines
abbrev pub driver_members : (name : List ℕ) → List Column → List Member
driver_members name columns =
    member.Instance 0 name name ∷ bind_lines name 0 (map (λ column. column.label) columns)
