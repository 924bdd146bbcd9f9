-- The driven tree keeps what the tree of each text keeps.
use Rattle.std.proofs.Common.{◌≡◌, ◌∙◌, ℕ, zero, suc, ◌+◌, ◌-◌, ◌*◌, ◌/◌, ◌%◌, ◌<◌, ◌≤◌, ◌^◌, Bool, true, false, not, ◌&&◌, ◌||◌, nat_eq, nat_lt, List, [], ◌∷◌, ◌++◌, Option, Some, None, map, length, drop, get_or, codes, ◌⊎◌, refl, sym, ap, subst, arith, inl, inr}
use Rattle.std.proofs.lemmas.Bool.{and_parts, cases_eq, cond_both, eqb-true, false≢true, lt-ltb, ltb-false, ltb-true, not-false, or_parts}
use Rattle.std.proofs.lemmas.List.{drop_more, length-drop, length-map}
use Rattle.std.specs.Cmp.Lexicographic.{pointwise}
use Rattle.std.specs.List.{AllByRecursion, list_all, range_with_len}
use Rattle.std.specs.Option.{option_map}
use Rattle.std.specs.Prelude.{is_some, slice_index_or, if◌then◌else◌}
use Rattle.tdf_base.proofs.Api.{all_of, digit_small, numeral_spelled}
use Rattle.tdf_base.specs.Digits.{are_digits, is_digit}
use Rattle.tdf_base.specs.Limits.{time_end}
use Rattle.tdf_base.specs.Number.{is_number, is_short, is_short_numeral, numeral_of}
use Rattle.tdf_base.specs.Spelling.{after_point}
use Rattle.tdf_base.specs.Time.{femtoseconds_in}
use Rattle.tdf_base.specs.declared.resolution.Resolution.{Resolution}
use Rattle.tdf_lang_parser.specs.Formed.{IsEventLine, IsFormed, IsNoPort, IsPlainGlobal, HasEventPorts}
use Rattle.tdf_lang_tree.specs.Kept.{Each, IsCount, IsKept, IsName, IsNumber, KeepsDe, KeepsDeLine, KeepsFormat, KeepsGlobal, KeepsLit, KeepsMember, KeepsSense, KeepsShape, KeepsStmt, KeepsStmts}
use Rattle.tdf_lang_tree.specs.Pure.{PureGlobal, GShape, GTdf, GDe, GNet, PureStmt, PureTree}
use Rattle.tdf_lang_tree.specs.Views.{sts}
use Rattle.tdf_lang_tree.specs.declared.blocks.Member.{Member}
use Rattle.tdf_lang_tree.specs.declared.blocks.Member.TheVariants as member
use Rattle.tdf_lang_tree.specs.declared.names.Lit.{Lit}
use Rattle.tdf_lang_tree.specs.declared.shapes.FormatRef.{FormatRef}
use Rattle.tdf_lang_tree.specs.declared.shapes.FormatRef.TheVariants.{Own, Named}
use Rattle.tdf_stim.proofs.CheckedRows.{product_above}
use Rattle.tdf_stim.proofs.FreeNames.{named}
use Rattle.tdf_stim.specs.Drivable.{IsDrivable, has_long, is_long, is_long_numeral, is_off, is_too_large, line_from}
use Rattle.tdf_stim.specs.Driven.{driven_by, driven_tree, driver_name, times_of, with_driver}
use Rattle.tdf_stim.specs.Driver.{assign, bind_lines, cell_literal, columns_lines, counts, count_line, driver_block, driver_body, driver_members, event_line, event_name, event_numbers, literals, notify_lines, port_name, array_name, event_sense}
use Rattle.tdf_stim.specs.Signals.{Column, SignalOf, SourceOf, column_cells, columns_from, driving, format_shape, shape_or_count, signal_named, source_named, source_of, sources_of, type_named}
use Rattle.tdf_stim_lines.proofs.Api.{numbered_formed, numbered_kept}
use Rattle.tdf_tables.specs.Cells.{IsCell, SpellsPlain}
use Rattle.tdf_tables.specs.Cells.IsCell.{Unknown, Number, Negative}
use Rattle.tdf_tables.specs.Tables.{TableRow, TableOf, AreRows, IsLabel, IsRow, IsTableForm}
use Rattle.tdf_tables.specs.Tables.AreRows.{NoRows, MoreRows}

-- ---- lists

pub each_both : {A : Type 0} (K : A → Type 0) (xs ys : List A) → Each K xs → Each K ys → Each K (xs ++ ys)
each_both K [] ys h k = k
each_both K (x ∷ xs) ys h k = (h.0, each_both K xs ys h.1 k)

pub all_both : {A : Type 0} (K : A → Type 0) (xs ys : List A) → AllByRecursion K xs → AllByRecursion K ys → AllByRecursion K (xs ++ ys)
all_both K [] ys h k = k
all_both K (x ∷ xs) ys h k = (h.0, all_both K xs ys h.1 k)

each_number : {A : Type 0} (K : A → Type 0) (f : ℕ → A) (a n most : ℕ) → ((k : ℕ) → k < most → K (f k)) → a + n ≤ most → Each K (map f (range_with_len a n))
each_number K f a zero most holds few = tt
each_number K f a (suc n) most holds few = (holds a (omega arith), each_number K f (a + 1) n most holds (omega arith))

-- ---- signals and types

type_kept : (gs : List PureGlobal) (name : List ℕ) → Each KeepsGlobal gs → KeepsShape (shape_or_count (type_named gs name))
type_kept [] name k = (omega arith, omega arith)
type_kept (GShape shape ∷ gs) name k =
    cond_both (pointwise nat_eq shape.name name) (Some shape.shape) (type_named gs name) (λ o. KeepsShape (shape_or_count o)) (λ e. k.0.1) (λ e. type_kept gs name k.1)
type_kept (GTdf block ∷ gs) name k = type_kept gs name k.1
type_kept (GDe block ∷ gs) name k = type_kept gs name k.1
type_kept (GNet block ∷ gs) name k = type_kept gs name k.1

shape_kept : (gs : List PureGlobal) (format : FormatRef) → Each KeepsGlobal gs → KeepsFormat format → KeepsShape (format_shape gs format)
shape_kept gs (Own shape) k h = h
shape_kept gs (Named name) k h = type_kept gs name k

abbrev SignalFits : SignalOf → Type 0
SignalFits s = KeepsFormat s.format × KeepsLit s.start

abbrev Fits : {A : Type 0} → (A → Type 0) → Option A → Type 0
Fits P None = Unit {0}
Fits P (Some x) = P x

signal_kept : (ms : List Member) (label : List ℕ) → Each KeepsMember ms → Fits SignalFits (signal_named ms label)
signal_kept [] label k = tt
signal_kept (member.Port port ∷ ms) label k = signal_kept ms label k.1
signal_kept (member.Signal line name format ∷ ms) label k = signal_kept ms label k.1
signal_kept (member.DeSignal line name format start ∷ ms) label k =
    cond_both (pointwise nat_eq name label) (Some (record { format = format; start = start })) (signal_named ms label) (Fits SignalFits)
    (λ e. (k.0.1, k.0.2)) (λ e. signal_kept ms label k.1)
signal_kept (member.Instance line name block ∷ ms) label k = signal_kept ms label k.1
signal_kept (member.Bind line instance port target ∷ ms) label k = signal_kept ms label k.1

-- what is kept of a source, and of a column
abbrev SourceFits : SourceOf → Type 0
SourceFits s = IsName s.label × KeepsShape s.shape × KeepsLit s.start

source_kept : (tree : PureTree) → IsKept tree → (label : List ℕ) → IsName label → Fits SourceFits (source_named tree label)
source_kept tree kept label named_so = by (signal_named tree.top.members label) (signal_kept tree.top.members label kept.top.1)
  where
    by : (o : Option SignalOf) → Fits SignalFits o → Fits SourceFits (option_map (source_of (format_shape tree.globals) label) o)
    by None h = tt
    by (Some s) h = (named_so, shape_kept tree.globals s.format kept.globals h.0, h.1)

pub sources_kept : (tree : PureTree) → IsKept tree → (labels : List (List ℕ)) → AllByRecursion IsName labels → AllByRecursion (Fits SourceFits) (map (source_named tree) labels)
sources_kept tree kept [] h = tt
sources_kept tree kept (label ∷ labels) h = (source_kept tree kept label h.0, sources_kept tree kept labels h.1)

-- ---- cells

abbrev IsShortCell : List ℕ → Type 0
IsShortCell cell = IsCell cell × (is_long cell ≡ false)

number_kept : (text : List ℕ) → SpellsPlain text → is_long_numeral (numeral_of text) ≡ false → IsNumber text
unfolding is_number
number_kept text plain short =
    let found : numeral_of text ≡ Some plain.numeral = numeral_spelled text plain.numeral plain.spells in
    ap is_short_numeral found ∙ not-false (is_short plain.numeral) (sym (ap is_long_numeral found) ∙ short)

-- a number begins with a digit
first_digit : (c : ℕ) (cs : List ℕ) → SpellsPlain (c ∷ cs) → is_digit c ≡ true
first_digit c cs plain = by plain.numeral.whole plain.spells.whole plain.spells.is
  where
    by : (whole : List ℕ) → are_digits whole ≡ true → c ∷ cs ≡ whole ++ after_point plain.numeral.fraction → is_digit c ≡ true
    by [] all is = absurd (false≢true all)
    by (w ∷ ws) all is =
        let digits : list_all is_digit (w ∷ ws) ≡ true = all_of (w ∷ ws) all in
        let both = and_parts (is_digit w) (list_all is_digit ws) digits in
        let same : c ≡ w = cc in
        ap is_digit same ∙ both.0

literal_by : (star minus : Bool) (above : Lit) (c : ℕ) (cs : List ℕ) → KeepsLit above → (minus ≡ true → IsNumber cs) → (minus ≡ false → IsNumber (c ∷ cs))
    → KeepsLit (if star then above else if minus then record { minus = true; digits = cs } else record { minus = false; digits = c ∷ cs })
literal_by true minus above c cs k negative positive = k
literal_by false true above c cs k negative positive = negative refl
literal_by false false above c cs k negative positive = positive refl

literal_number : (above : Lit) (text : List ℕ) → SpellsPlain text → is_long text ≡ false → KeepsLit above → KeepsLit (cell_literal above text)
literal_number above [] plain short k = k
literal_number above (c ∷ cs) plain short k =
    let digit = digit_small c (first_digit c cs plain) in
    literal_by (nat_eq c 42) (nat_eq c 45) above c cs k
    (λ e. let is : c ≡ 45 = eqb-true c 45 e in absurd (omega (arith, is, digit.0)))
    (λ e. number_kept (c ∷ cs) plain (sym (ap (λ b. is_long_numeral (numeral_of (if b then cs else c ∷ cs))) e) ∙ short))

literal_kept : (above : Lit) (cell : List ℕ) → IsCell cell → is_long cell ≡ false → KeepsLit above → KeepsLit (cell_literal above cell)
literal_kept above cell Unknown short k = k
literal_kept above cell (Number plain) short k = literal_number above _ plain short k
literal_kept above cell (Negative {text = text} plain other) short k = number_kept text plain short

literals_kept : (above : Lit) (cells : List (List ℕ)) → AllByRecursion IsShortCell cells → KeepsLit above → Each KeepsLit (literals above cells)
unfolding literals
literals_kept above [] h k = tt
literals_kept above (cell ∷ cells) h k =
    let here = literal_kept above cell h.0.0 h.0.1 k in (here, literals_kept (cell_literal above cell) cells h.1 here)

-- ---- columns

pub record ColumnFits (rows : ℕ) (column : Column) : Type 0 where
  pub label : IsName column.label
  pub shape : KeepsShape column.shape
  pub start : KeepsLit column.start
  pub many : length column.cells ≡ rows
  pub cells : AllByRecursion IsShortCell column.cells

-- a row from a place on, for the sources of these columns
record RowFits (place : ℕ) (sources : List (Option SourceOf)) (row : TableRow) : Type 0 where
  many : length (drop place row.cells) ≡ length sources
  cells : AllByRecursion IsCell (drop place row.cells)
  short : has_long sources (drop place row.cells) ≡ false

within_row : (place : ℕ) (source : Option SourceOf) (sources : List (Option SourceOf)) (row : TableRow) → RowFits place (source ∷ sources) row → place < length row.cells
within_row place source sources row h = omega (arith, h.many, length-drop place row.cells)

row_here : (place : ℕ) (source : Option SourceOf) (sources : List (Option SourceOf)) (row : TableRow) → RowFits place (source ∷ sources) row
    → IsCell (get_or row.cells place []) × ((is_some source && is_long (get_or row.cells place [])) ≡ false)
unfolding has_long
row_here place source sources row h =
    let split = drop_more row.cells place [] (within_row place source sources row h) in
    let cells = subst (AllByRecursion IsCell) split h.cells in
    let short = or_parts (is_some source && is_long (get_or row.cells place [])) (has_long sources (drop (place + 1) row.cells)) (sym (ap (has_long (source ∷ sources)) split) ∙ h.short) in
    (cells.0, short.0)

row_next : (place : ℕ) (source : Option SourceOf) (sources : List (Option SourceOf)) (row : TableRow) → RowFits place (source ∷ sources) row → RowFits (place + 1) sources row
unfolding has_long
row_next place source sources row h =
    let split = drop_more row.cells place [] (within_row place source sources row h) in
    let cells = subst (AllByRecursion IsCell) split h.cells in
    let short = or_parts (is_some source && is_long (get_or row.cells place [])) (has_long sources (drop (place + 1) row.cells)) (sym (ap (has_long (source ∷ sources)) split) ∙ h.short) in
    record {
      many = omega (arith, ap length split, h.many);
      cells = cells.1;
      short = short.1;
    }

rows_next : (place : ℕ) (source : Option SourceOf) (sources : List (Option SourceOf)) (rows : List TableRow) → AllByRecursion (RowFits place (source ∷ sources)) rows
    → AllByRecursion (RowFits (place + 1) sources) rows
rows_next place source sources [] h = tt
rows_next place source sources (row ∷ rows) h = (row_next place source sources row h.0, rows_next place source sources rows h.1)

cells_short : (place : ℕ) (s : SourceOf) (sources : List (Option SourceOf)) (rows : List TableRow) → AllByRecursion (RowFits place (Some s ∷ sources)) rows
    → AllByRecursion IsShortCell (column_cells place rows)
cells_short place s sources [] h = tt
cells_short place s sources (row ∷ rows) h = (row_here place (Some s) sources row h.0, cells_short place s sources rows h.1)

columns_kept : (rows : List TableRow) (place : ℕ) (sources : List (Option SourceOf)) → AllByRecursion (Fits SourceFits) sources → AllByRecursion (RowFits place sources) rows
    → AllByRecursion (ColumnFits (length rows)) (columns_from rows place sources)
unfolding columns_from
columns_kept rows place [] fits h = tt
columns_kept rows place (None ∷ sources) fits h = columns_kept rows (place + 1) sources fits.1 (rows_next place None sources rows h)
columns_kept rows place (Some s ∷ sources) fits h = (
  record {
    label = fits.0.0;
    shape = fits.0.1;
    start = fits.0.2;
    many = length-map rows (λ row. slice_index_or row.cells place []);
    cells = cells_short place s sources rows h;
  },
  columns_kept rows (place + 1) sources fits.1 (rows_next place (Some s) sources rows h),
)

-- ---- rows of a table

line_none : (p : TableRow → Bool) (line : ℕ) (rows : List TableRow) → line_from line p rows ≡ None → AllByRecursion (λ row. p row ≡ false) rows
unfolding line_from
line_none p line [] e = tt
line_none p line (row ∷ rows) e = go (λ none. line_none p (line + 1) rows none) (p row) refl e
  where
    go : (line_from (line + 1) p rows ≡ None → AllByRecursion (λ row. p row ≡ false) rows) → (b : Bool) → p row ≡ b
        → (if b then Some line else line_from (line + 1) p rows) ≡ None → AllByRecursion (λ row. p row ≡ false) (row ∷ rows)
    go later true is found = absurd (cc)
    go later false is found = (is, later found)

rows_are : {n : ℕ} {rows : List TableRow} → AreRows n rows → AllByRecursion (IsRow n) rows
rows_are NoRows = tt
rows_are {n} (MoreRows {rows = rows} before row is next) = all_both (IsRow n) rows (row ∷ []) (rows_are before) (is, tt)

rows_fit : (sources : List (Option SourceOf)) (n : ℕ) (rows : List TableRow) → n ≡ length sources → AllByRecursion (IsRow n) rows
    → AllByRecursion (λ row. has_long sources row.cells ≡ false) rows → AllByRecursion (RowFits 0 sources) rows
rows_fit sources n [] is h short = tt
rows_fit sources n (row ∷ rows) is h short =
    (record { many = h.0.many ∙ is; cells = h.0.cells; short = short.0 }, rows_fit sources n rows is h.1 short.1)

-- the columns of a table that can drive
pub driving_kept : (tree : PureTree) (table : TableOf) → IsKept tree → IsTableForm table → IsDrivable tree table → AllByRecursion (ColumnFits (length table.rows)) (driving tree table)
driving_kept tree table kept is drivable =
    columns_kept table.rows 0 (sources_of tree table) (sources_kept tree kept table.labels (names_of table.labels is.front.labels.each))
    (rows_fit (sources_of tree table) (length table.labels) table.rows (sym (length-map table.labels (source_named tree))) (rows_are is.front.rows)
    (line_none (λ row. has_long (sources_of tree table) row.cells) 2 table.rows drivable.short))
  where
    names_of : (labels : List (List ℕ)) → AllByRecursion IsLabel labels → AllByRecursion IsName labels
    names_of [] h = tt
    names_of (label ∷ labels) h = (h.0.name, names_of labels h.1)

-- times of a table that can drive
times_kept : (unit : Resolution) (rows : List TableRow) → AllByRecursion (λ row. is_off unit row.time ≡ false) rows → AllByRecursion IsCount (map (λ row. counts unit row.time) rows)
times_kept unit [] h = tt
times_kept unit (row ∷ rows) h =
    let late = or_parts (not (nat_eq (row.time % femtoseconds_in unit) 0)) (not (nat_lt (row.time / femtoseconds_in unit) time_end)) h.0 in
    (ltb-true (row.time / femtoseconds_in unit) time_end (not-false (nat_lt (row.time / femtoseconds_in unit) time_end) late.1), times_kept unit rows h.1)

pub table_times_kept : (tree : PureTree) (table : TableOf) → IsDrivable tree table → AllByRecursion IsCount (times_of tree table)
table_times_kept tree table drivable = times_kept tree.resolution table.rows (line_none (λ row. is_off tree.resolution row.time) 2 table.rows drivable.on)

-- ---- the driver

port_named : (k : ℕ) → k < 10 ^ 18 → IsName (port_name k)
port_named k small = named 113 [] k refl refl (omega arith) (omega arith)

array_named : (k : ℕ) → k < 10 ^ 18 → IsName (array_name k)
array_named k small = named 97 [] k refl refl (omega arith) (omega arith)

event_named : (k : ℕ) → k < 10 ^ 18 → IsName (event_name k)
event_named k small = named 101 [] k refl refl (omega arith) (omega arith)

lines_kept : (n : ℕ) → IsCount n → (j : ℕ) (cs : List Column) → AllByRecursion (ColumnFits n) cs → j + length cs ≤ 10 ^ 18 → Each KeepsDeLine (columns_lines j cs)
unfolding columns_lines
lines_kept n count j [] h few = tt
lines_kept n count j (c ∷ cs) h few =
    let long : IsCount (length c.cells) = omega (arith, h.0.many, count) in (
      (port_named j (omega arith), h.0.shape),
      (
        (array_named j (omega arith), h.0.shape, long, literals_kept c.start c.cells h.0.cells h.0.start),
        lines_kept n count (j + 1) cs h.1 (omega arith),
      ),
    )

lines_event : (j : ℕ) (cs : List Column) → AllByRecursion IsEventLine (columns_lines j cs)
unfolding columns_lines
lines_event j [] = tt
lines_event j (c ∷ cs) = (tt, (tt, lines_event (j + 1) cs))

numbers_event : (a n : ℕ) → AllByRecursion IsEventLine (map event_line (range_with_len a n))
numbers_event a zero = tt
numbers_event a (suc n) = (tt, numbers_event (a + 1) n)

notifies_kept : (d i : ℕ) (times : List ℕ) → AllByRecursion IsCount times → i + length times ≤ 10 ^ 18 → Each (KeepsStmt d) (notify_lines i times)
unfolding notify_lines
notifies_kept d i [] h few = tt
notifies_kept d i (t ∷ times) h few = ((event_named i (omega arith), h.0), notifies_kept d (i + 1) times h.1 (omega arith))

stmts_kept : (d : ℕ) (ss : List PureStmt) → Each (KeepsStmt d) ss → KeepsStmts d (sts ss)
stmts_kept d [] h = tt
stmts_kept d (s ∷ ss) h = (h.0, stmts_kept d ss h.1)

rest_kept : {A : Type 0} (K : A → Type 0) (xs : List A) → AllByRecursion K xs → AllByRecursion K (drop 1 xs)
rest_kept K [] h = tt
rest_kept K (x ∷ xs) h = h.1

assign_kept : (k : ℕ) → k < 10 ^ 18 → KeepsStmt 6 (assign k)
assign_kept k small = (port_named k small, tt, (array_named k small, refl))

zero_number : IsNumber (codes "0")
unfolding is_number numeral_of
zero_number = refl

one_number : IsNumber (codes "1")
unfolding is_number numeral_of
one_number = refl

body_kept : (columns : ℕ) (times : List ℕ) → AllByRecursion IsCount times → length times < 10 ^ 18 → columns ≤ 10 ^ 18 → KeepsStmts 8 (driver_body columns times)
body_kept columns times h few small = (
  ((refl, zero_number), stmts_kept 7 (notify_lines 1 (drop 1 times)) (notifies_kept 7 1 (drop 1 times) (rest_kept IsCount times h) (omega (arith, length-drop 1 times))), tt),
  (
    (refl, omega arith, few, (((refl, refl), stmts_kept 6 (map assign (range_with_len 0 columns)) (each_number (KeepsStmt 6) assign 0 columns (10 ^ 18) assign_kept (omega arith)), tt), tt)),
    ((refl, tt, (refl, one_number)), tt),
  ),
)

event_line_kept : (k : ℕ) → k < 10 ^ 18 → KeepsDeLine (event_line k)
event_line_kept k small = event_named k small

sense_kept : (k : ℕ) → k < 10 ^ 18 → KeepsSense (event_sense k)
sense_kept k small = event_named k small

pub driver_kept : (name : List ℕ) (columns : List Column) (times : List ℕ) → IsName name → AllByRecursion (ColumnFits (length times)) columns → AllByRecursion IsCount times
    → length times < 10 ^ 18 → length columns ≤ 10 ^ 18 → KeepsDe (driver_block name columns times)
driver_kept name columns times is fits counted few small = record {
  name = is;
  decls = each_both KeepsDeLine (columns_lines 0 columns) (count_line ∷ map event_line (event_numbers (length times))) (lines_kept (length times) few 0 columns fits (omega arith))
      ((refl, (omega arith, omega arith), zero_number), each_number KeepsDeLine event_line 1 (length times - 1) (10 ^ 18) event_line_kept (omega arith));
  processes = ((each_number KeepsSense event_sense 1 (length times - 1) (10 ^ 18) sense_kept (omega arith), body_kept (length columns) times counted few small), tt);
}

binds_kept : (name : List ℕ) → IsName name → (n j : ℕ) (cs : List Column) → AllByRecursion (ColumnFits n) cs → j + length cs ≤ 10 ^ 18
    → Each KeepsMember (bind_lines name j (map (λ column. column.label) cs))
unfolding bind_lines
binds_kept name is n j [] h few = tt
binds_kept name is n j (c ∷ cs) h few = ((is, port_named j (omega arith), h.0.label), binds_kept name is n (j + 1) cs h.1 (omega arith))

binds_closed : (name : List ℕ) (j : ℕ) (labels : List (List ℕ)) → AllByRecursion IsNoPort (bind_lines name j labels)
unfolding bind_lines
binds_closed name j [] = tt
binds_closed name j (label ∷ labels) = (tt, binds_closed name (j + 1) labels)

-- ---- the tree

pub with_driver_kept : (tree : PureTree) (columns : List Column) (times : List ℕ) → IsKept tree → IsName (driver_name tree) → AllByRecursion (ColumnFits (length times)) columns
    → AllByRecursion IsCount times → length times < 10 ^ 18 → length columns ≤ 10 ^ 18 → IsKept (with_driver tree columns times)
with_driver_kept tree columns times kept is fits counted few small = record {
  resolution = kept.resolution;
  globals = each_both KeepsGlobal tree.globals (GDe (driver_block (driver_name tree) columns times) ∷ []) kept.globals (driver_kept (driver_name tree) columns times is fits counted few small, tt);
  top = (
    kept.top.0,
    each_both KeepsMember tree.top.members (driver_members (driver_name tree) columns) kept.top.1
        ((is, is), binds_kept (driver_name tree) is (length times) 0 columns fits (omega arith)),
  );
  traces = kept.traces;
}

pub with_driver_formed : (tree : PureTree) (columns : List Column) (times : List ℕ) → IsFormed tree → IsFormed (with_driver tree columns times)
with_driver_formed tree columns times formed = record {
  closed = all_both IsNoPort tree.top.members (driver_members (driver_name tree) columns) formed.closed (tt, binds_closed (driver_name tree) 0 (map (λ column. column.label) columns));
  plain = all_both IsPlainGlobal tree.globals (GDe (driver_block (driver_name tree) columns times) ∷ []) formed.plain (tt, tt);
  events = all_both HasEventPorts tree.globals (GDe (driver_block (driver_name tree) columns times) ∷ []) formed.events
      (all_both IsEventLine (columns_lines 0 columns) (count_line ∷ map event_line (event_numbers (length times))) (lines_event 0 columns) (tt, numbers_event 1 (length times - 1)), tt);
  labels = formed.labels;
}

few_columns : (rows columns : ℕ) → is_too_large rows columns ≡ false → 0 < rows → (columns ≡ 0) ⊎ ((rows ≤ 4096) × (columns ≤ 65536))
few_columns rows columns few some = go (cases_eq columns 0)
  where
    go : (columns ≡ 0) ⊎ (columns ≡ 0 → ⊥) → (columns ≡ 0) ⊎ ((rows ≤ 4096) × (columns ≤ 65536))
    go (inl none) = inl none
    go (inr other) =
        let drives : nat_lt 0 columns ≡ true = lt-ltb 0 columns (omega (arith, other)) in
        let rest : (nat_lt 4096 rows || nat_lt 65536 (rows * (2 + columns) + 2)) ≡ false =
        sym (ap (λ b. b && (nat_lt 4096 rows || nat_lt 65536 (rows * (2 + columns) + 2))) drives) ∙ few in
        let both = or_parts (nat_lt 4096 rows) (nat_lt 65536 (rows * (2 + columns) + 2)) rest in
        inr (ltb-false 4096 rows both.0, omega (arith, ltb-false 65536 (rows * (2 + columns) + 2) both.1, product_above rows (2 + columns) some))

pub driven_kept : (tree : PureTree) (table : TableOf) → IsKept tree → IsTableForm table → IsDrivable tree table → (0 < length (driving tree table) → IsName (driver_name tree))
    → IsKept (driven_tree tree table)
unfolding driven_tree
driven_kept tree table kept is drivable has_name = by (driving tree table) refl
  where
    by : (cs : List Column) → driving tree table ≡ cs → IsKept (driven_by tree cs (times_of tree table))
    by [] e = kept
    by (c ∷ cs) e =
        let rows_same : length (times_of tree table) ≡ length table.rows = length-map table.rows (λ row. counts tree.resolution row.time) in
        let fits : AllByRecursion (ColumnFits (length (times_of tree table))) (c ∷ cs) =
        subst (λ n. AllByRecursion (ColumnFits n) (c ∷ cs)) (sym rows_same) (subst (AllByRecursion (ColumnFits (length table.rows))) e (driving_kept tree table kept is drivable)) in
        let few : is_too_large (length table.rows) (length (c ∷ cs)) ≡ false = sym (ap (λ ds. is_too_large (length table.rows) (length ds)) e) ∙ drivable.few in
        let bounds : (length table.rows ≤ 4096) × (length (c ∷ cs) ≤ 65536) = by_cases (few_columns (length table.rows) (length (c ∷ cs)) few is.some) in
        numbered_kept (with_driver tree (c ∷ cs) (times_of tree table))
        (with_driver_kept tree (c ∷ cs) (times_of tree table) kept (has_name (omega (arith, ap length e))) fits (table_times_kept tree table drivable) (omega (arith, rows_same, bounds)) (omega (arith, bounds)))
      where
        by_cases : ((length (c ∷ cs) ≡ 0) ⊎ ((length table.rows ≤ 4096) × (length (c ∷ cs) ≤ 65536))) → (length table.rows ≤ 4096) × (length (c ∷ cs) ≤ 65536)
        by_cases (inl none) = absurd (omega (arith, none))
        by_cases (inr both) = both

pub driven_formed : (tree : PureTree) (table : TableOf) → IsFormed tree → IsFormed (driven_tree tree table)
unfolding driven_tree
driven_formed tree table formed = by (driving tree table)
  where
    by : (cs : List Column) → IsFormed (driven_by tree cs (times_of tree table))
    by [] = formed
    by (c ∷ cs) = numbered_formed (with_driver tree (c ∷ cs) (times_of tree table)) (with_driver_formed tree (c ∷ cs) (times_of tree table) formed)
