-- The cells of the first positions of a signal.
-- Source: own.
use Rattle.std.specs.Prelude.{ℕ, nat_lt, if◌then◌else◌, Option, Some, None, List, slice_get}
use Rattle.tdf_trace.specs.Tracks.{known_cell}
use Rattle.tdf_fixed.specs.declared.raw.Raw.{Raw}
use Rattle.tdf_trace_rows.specs.Positions.{Span, cell_of, position_at}

-- the cells of the first n positions
abbrev pub first_cell : List Raw → (n : ℕ) → Option ℕ → Option (Option Raw)
first_cell samples n None = None
first_cell samples n (Some j) = if nat_lt j n then Some (slice_get samples j) else None

abbrev pub first_cells : List Span → List Raw → (n time : ℕ) → Option (Option Raw)
first_cells spans samples n time = first_cell samples n (position_at 0 spans time)

abbrev pub known_cells : List Span → List Raw → (time : ℕ) → Option (Option Raw)
known_cells spans samples time = known_cell (cell_of spans samples time)
