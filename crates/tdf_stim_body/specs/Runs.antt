-- What a run of a driver's body does: it gives each port the element of its array that has the
-- number of the run, counts, and in the first run it notifies each event after its time.
-- Source: own.
use Rattle.std.specs.Prelude.{◌≡◌, ◌<◌, ◌≤◌, ℕ, ◌+◌, ◌-◌, ◌*◌, true, false, List, length, Some, ℤ, pos, slice_get, slice_index, slice_index_or, slice_set}
use Rattle.tdf_base.specs.Limits.{greatest_rate}
use Rattle.tdf_expr_semantics.specs.Value.{cast_number, of_shape}
use Rattle.tdf_expr_state.specs.State.{State, cell_at, least_time, standing}
use Rattle.tdf_stim.specs.Signals.{Column}

-- the cell of the count, behind those of all arrays
abbrev pub count_cell : List Column → (rows : ℕ) → ℕ
count_cell columns rows = rows * length columns

-- the state of a driver that ran m times: the values of its names, and so many samples, marks and
-- notices as it has ports and events
pub record HasCounted (columns : List Column) (rows m : ℕ) (s : State) : Type 0 where
  pub count : cell_at s.frame.cells (count_cell columns rows) ≡ pos m
  pub cells : length s.frame.cells ≡ count_cell columns rows + 1
  pub samples : length s.ports.samples ≡ length columns
  pub assigned : length s.ports.assigned ≡ length columns
  pub notified : length s.ports.notified ≡ rows - 1

-- the value that port j gets: element m of its array
abbrev pub run_sample : State → (rows m j : ℕ) → Column → ℤ
run_sample s rows m j c =
    cast_number c.shape (of_shape (Some c.shape) (cell_at s.frame.cells (rows * j + m)))

-- run m leaves this of a state
pub record RanOnce (columns : List Column) (times : List ℕ) (m : ℕ) (s t : State) : Type 0 where
  pub cells : t.frame.cells
      ≡ slice_set s.frame.cells (count_cell columns (length times)) (pos (m + 1))
  pub rates : t.frame.rates ≡ s.frame.rates
  pub samples : (j : ℕ) (c : Column) → slice_get columns j ≡ Some c
      → cell_at t.ports.samples j ≡ run_sample s (length times) m j c
  pub assigned : (j : ℕ) (c : Column) → slice_get columns j ≡ Some c
      → slice_index_or t.ports.assigned j false ≡ true
  pub first : m ≡ 0 → (i : ℕ) → i + 1 < length times → standing (slice_get t.ports.notified i)
      ≡ Some (least_time (standing (slice_get s.ports.notified i)) (slice_index times (i + 1)))
  pub later : 0 < m → t.ports.notified ≡ s.ports.notified

-- there are at most as many rows as an array may have elements
abbrev pub FewRows : (rows : ℕ) → Type 0
FewRows rows = rows ≤ greatest_rate
