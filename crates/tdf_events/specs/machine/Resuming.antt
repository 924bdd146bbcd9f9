-- The parts of a kernel that goes on from a state, made one after the other.
-- Source: own.
use Rattle.std.specs.Prelude.{◌≡◌, ◌<◌, ◌≤◌, ℕ, ℤ, List, [], ◌∷◌, Option, length, map, Some, slice_get, slice_set}
use Rattle.tdf_events.specs.State.{value_in}
use Rattle.tdf_expr.specs.Frames.{FrameSeen}
use Rattle.tdf_expr.specs.Plans.{shape_written}
use Rattle.tdf_expr_semantics.specs.Fits.{NumbersFit}
use Rattle.tdf_expr_state.specs.State.{cell_at}
use Rattle.tdf_fixed.specs.declared.format.Format.{Format}
use Rattle.tdf_fixed.specs.declared.raw.Raw.{Raw}
use Rattle.tdf_saved.specs.declared.state.Pending.{Pending}

-- each notification gives its event its time
unfoldable pub with_pending : List Pending → List (Option ℕ) → List (Option ℕ)
with_pending [] times = times
with_pending (p ∷ ps) times = with_pending ps (slice_set times p.event (Some p.time))

-- the first n numbers as values of their formats
pub record AreValuesIn (formats : List Format) (nums : List ℤ) (n : ℕ) (values : List Raw)
    : Type 0 where
  pub long : length values ≡ n
  pub each : (k : ℕ) (f : Format) (value : Raw) → slice_get formats k ≡ Some f
      → slice_get values k ≡ Some value → value ≡ value_in f (cell_at nums k)

-- an instance with other cells
abbrev pub with_cells : FrameSeen → List ℤ → FrameSeen
with_cells f nums = record f { state = record f.state { cells = nums } }

-- each frame can hold its cells
abbrev pub CanHold : List FrameSeen → List (List ℤ) → Type 0
CanHold frames blocks = (n : ℕ) (f : FrameSeen) (nums : List ℤ) → slice_get frames n ≡ Some f
    → slice_get blocks n ≡ Some nums → NumbersFit (map shape_written f.formats) nums

-- the first n frames have these cells, the others those that they had
pub record HaveCells (blocks : List (List ℤ)) (n : ℕ) (old new : List FrameSeen) : Type 0 where
  pub long : length new ≡ length old
  pub set : (k : ℕ) (f : FrameSeen) (nums : List ℤ) → k < n → slice_get old k ≡ Some f
      → slice_get blocks k ≡ Some nums → slice_get new k ≡ Some (with_cells f nums)
  pub same : (k : ℕ) (f : FrameSeen) → n ≤ k → slice_get old k ≡ Some f
      → slice_get new k ≡ Some f
