-- The parts of a kernel, made one after the other.
-- Source: own.
use Rattle.std.specs.Prelude.{◌≡◌, ◌<◌, ◌≤◌, ◌⊎◌, ℕ, Bool, false, List, length, Some, slice_get}
use Rattle.tdf_events_queue.specs.Lists.{list_at}
use Rattle.tdf_events_queue.specs.Sets.{is_on}
use Rattle.tdf_expr.specs.Frames.{FrameSeen, PortsSeen}
use Rattle.tdf_expr.specs.Made.{cell_formats, event_count, port_spans_of, rate_spans_of, start_cells, start_rates}
use Rattle.tdf_expr.specs.declared.checked.Checked.{Checked}
use Rattle.tdf_bind_connections.specs.ProcessBlocks.{BlockRowOf, ProcessRowOf}

-- an instance of the block of a number, as declared
pub record IsFirstFrame (checked : Checked) (block : ℕ) (frame : FrameSeen) : Type 0 where
  pub formats : frame.formats ≡ cell_formats checked block
  pub rates : frame.rates ≡ rate_spans_of checked block
  pub cells : frame.state.cells ≡ start_cells checked block
  pub values : frame.state.rates ≡ start_rates checked block

pub record AreFirstPorts (checked : Checked) (block : ℕ) (ports : PortsSeen) : Type 0 where
  pub spans : ports.spans ≡ port_spans_of checked block
  pub events : length ports.state.notified ≡ event_count checked block

-- one for each of these instances
pub record AreFrames (checked : Checked) (rows : List BlockRowOf) (n : ℕ) (frames : List FrameSeen)
    : Type 0 where
  pub long : length frames ≡ n
  pub each : (k : ℕ) (row : BlockRowOf) (frame : FrameSeen) → slice_get rows k ≡ Some row
      → slice_get frames k ≡ Some frame → IsFirstFrame checked row.block frame

pub record AreAllPorts (checked : Checked) (rows : List BlockRowOf) (n : ℕ) (all : List PortsSeen)
    : Type 0 where
  pub long : length all ≡ n
  pub each : (k : ℕ) (row : BlockRowOf) (ports : PortsSeen) → slice_get rows k ≡ Some row
      → slice_get all k ≡ Some ports → AreFirstPorts checked row.block ports

-- the first n processes are triggered where they run at the start, the others are not
pub record AreStarted (rows : List ProcessRowOf) (n : ℕ) (flags : List Bool) : Type 0 where
  pub long : length flags ≡ length rows
  pub each : (k : ℕ) (row : ProcessRowOf) → k < n → slice_get rows k ≡ Some row
      → is_on flags k ≡ row.starts
  pub rest : (k : ℕ) → n ≤ k → is_on flags k ≡ false

-- process p was added under the first n of these numbers
pub record AreAdded (numbers : List ℕ) (p n : ℕ) (old new : List (List ℕ)) : Type 0 where
  pub same : length new ≡ length old
  pub kept : (s i q : ℕ) → slice_get (list_at old s) i ≡ Some q
      → slice_get (list_at new s) i ≡ Some q
  pub added : (j s : ℕ) → j < n → slice_get numbers j ≡ Some s
      → (i : ℕ) × (slice_get (list_at new s) i ≡ Some p)
  pub only : (s i q : ℕ) → slice_get (list_at new s) i ≡ Some q
      → (slice_get (list_at old s) i ≡ Some q)
      ⊎ ((q ≡ p) × (j : ℕ) × (slice_get numbers j ≡ Some s))
