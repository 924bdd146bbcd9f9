-- The columns of a table that drive: those whose label is the name of an event signal of `top`. All
-- other columns are ignored.
-- Source: own.
use Rattle.std.specs.Cmp.Lexicographic.{pointwise}
use Rattle.std.specs.Option.{option_map}
use Rattle.std.specs.Prelude.{ℕ, ◌+◌, true, not, nat_eq, if◌then◌else◌, List, [], ◌∷◌, ◌++◌, map, filter, is_some, Option, Some, None, slice_index_or}
use Rattle.tdf_fixed.specs.declared.over.Over.TheVariants.{Wrap}
use Rattle.tdf_fixed.specs.declared.quant.Quant.TheVariants.{Trn}
use Rattle.tdf_lang_tree.specs.Pure.{PureGlobal, GShape, PureTree}
use Rattle.tdf_lang_tree.specs.declared.blocks.Member.{Member}
use Rattle.tdf_lang_tree.specs.declared.blocks.Member.TheVariants as member
use Rattle.tdf_lang_tree.specs.declared.names.Lit.{Lit}
use Rattle.tdf_lang_tree.specs.declared.shapes.FormatRef.{FormatRef}
use Rattle.tdf_lang_tree.specs.declared.shapes.FormatRef.TheVariants.{Own, Named}
use Rattle.tdf_lang_tree.specs.declared.shapes.Shape.{Shape}
use Rattle.tdf_tables.specs.Tables.{TableRow, TableOf}

-- a format and a starting literal, as an event signal has them
pub record SignalOf : Type 0 where
  pub format : FormatRef
  pub start : Lit

-- the event signal among these members that has this name: the first, should there be more
abbrev pub signal_named : List Member → (label : List ℕ) → Option SignalOf
signal_named [] label = None
signal_named (member.DeSignal line name format start ∷ members) label =
    if pointwise nat_eq name label then Some (record { format = format; start = start })
    else signal_named members label
signal_named (_ ∷ members) label = signal_named members label

-- the shape of the `type` line that has this name: the first, should there be more
abbrev pub type_named : List PureGlobal → (name : List ℕ) → Option Shape
type_named [] name = None
type_named (GShape shape ∷ globals) name =
    if pointwise nat_eq shape.name name then Some shape.shape else type_named globals name
type_named (_ ∷ globals) name = type_named globals name

-- `fixed 16 16`
abbrev pub count_shape : Shape
count_shape = record { signed = true; wl = 16; iwl = 16; quant = Trn; over = Wrap }

-- the shape that a format is; a name that no `type` line has, which no accepted model uses, counts
-- as one of `fixed 16 16`
abbrev pub shape_or_count : Option Shape → Shape
shape_or_count None = count_shape
shape_or_count (Some shape) = shape

abbrev pub shape_by : (List ℕ → Option Shape) → FormatRef → Shape
shape_by type_of (Own shape) = shape
shape_by type_of (Named name) = shape_or_count (type_of name)

abbrev pub format_shape : List PureGlobal → FormatRef → Shape
format_shape globals format = shape_by (type_named globals) format

-- what a column drives: the signal of that name, by its shape and its starting literal
pub record SourceOf : Type 0 where
  pub label : List ℕ
  pub shape : Shape
  pub start : Lit

abbrev pub source_of : (FormatRef → Shape) → (label : List ℕ) → SignalOf → SourceOf
source_of shape label signal =
    record { label = label; shape = shape signal.format; start = signal.start }

abbrev pub source_named : PureTree → (label : List ℕ) → Option SourceOf
source_named tree label =
    option_map (source_of (format_shape tree.globals) label) (signal_named tree.top.members label)

-- for each column what it drives, if it does
abbrev pub sources_of : PureTree → TableOf → List (Option SourceOf)
sources_of tree table = map (source_named tree) table.labels

-- the labels of the columns that are ignored
abbrev pub ignored_labels : PureTree → TableOf → List (List ℕ)
ignored_labels tree table = filter (λ label. not (is_some (source_named tree label))) table.labels

-- a column that drives, with its cells from above
pub record Column : Type 0 where
  pub label : List ℕ
  pub shape : Shape
  pub start : Lit
  pub cells : List (List ℕ)

-- the cells of the column at a place
abbrev pub column_cells : (place : ℕ) → List TableRow → List (List ℕ)
column_cells place rows = map (λ row. slice_index_or row.cells place []) rows

abbrev pub column_of : List TableRow → (place : ℕ) → Option SourceOf → List Column
column_of rows place None = []
column_of rows place (Some s) = record {
  label = s.label;
  shape = s.shape;
  start = s.start;
  cells = column_cells place rows;
} ∷ []

unfoldable pub columns_from : List TableRow → (place : ℕ) → List (Option SourceOf) → List Column
columns_from rows place [] = []
columns_from rows place (source ∷ sources) =
    column_of rows place source ++ columns_from rows (place + 1) sources

-- the columns that drive, in order
abbrev pub driving : PureTree → TableOf → List Column
driving tree table = columns_from table.rows 0 (sources_of tree table)
