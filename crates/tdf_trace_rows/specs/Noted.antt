-- Cells as they are noted, one after the other.
-- Source: own.
use Rattle.std.specs.Prelude.{ℕ, Bool, ◌&&◌, nat_eq, if◌then◌else◌, Option, Some, None, is_some, List, [], ◌∷◌}
use Rattle.tdf_fixed.specs.declared.raw.Raw.{Raw}
use Rattle.tdf_trace_rows.specs.Rows.{Cells}
use Rattle.tdf_trace_rows.specs.declared.cell.Cell.{Cell}

-- a cell is of this column and time
abbrev pub is_cell_of : Cell → (column time : ℕ) → Bool
is_cell_of cell column time = nat_eq cell.column column && nat_eq cell.time time

-- the cell of a column and a time among those that were noted: the one that was noted last
unfoldable pub cell_noted : List Cell → (column time : ℕ) → Option (Option Raw)
cell_noted [] column time = None
cell_noted (x ∷ xs) column time =
    if is_some (cell_noted xs column time) then cell_noted xs column time
    else if is_cell_of x column time then Some x.value else None

-- the cells with one more
abbrev pub with_noted_cell : Cells → Cell → Cells
with_noted_cell cells cell = record {
  columns = cells.columns;
  first = cells.first;
  at = λ column time. if is_cell_of cell column time then Some cell.value else cells.at column time;
}

-- the cells that were noted, of columns that begin with these values
abbrev pub cells_noted : (columns : ℕ) → (ℕ → Option Raw) → List Cell → Cells
cells_noted columns first cells = record { columns = columns; first = first; at = cell_noted cells }
