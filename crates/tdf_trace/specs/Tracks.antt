-- When what is kept of a traced signal stands for periods and samples.
-- Source: own.
use Rattle.std.specs.Prelude.{◌≡◌, ℕ, ◌+◌, ◌-◌, ◌<◌, Option, Some, None, List, drop, length, slice_get}
use Rattle.tdf_trace.specs.Tracked.{TrackedOf}
use Rattle.tdf_fixed.specs.declared.raw.Raw.{Raw}
use Rattle.tdf_trace_rows.specs.Positions.{AreChained, Span, cell_of, count_of_spans}
use Rattle.tdf_trace_rows.specs.Stamping.{IsStamping}

-- spans one after the other, from some time on
abbrev pub IsChain : List Span → Type 0
IsChain spans = (begin : ℕ) × AreChained begin spans

-- so many positions have their time and their sample, and the samples after them wait for a period
-- that gives them a time
pub record Tracks (spans : List Span) (samples : List Raw) (t : TrackedOf) : Type 0 where
  pub done : ℕ
  pub stamping : IsStamping spans done t.stamps
  pub many : done + length t.waiting ≡ length samples
  pub waiting : t.waiting ≡ drop done samples
  pub idle : 0 < length t.waiting → t.stamps.left ≡ 0
  pub chained : IsChain spans

-- of each signal its periods and samples
abbrev pub AreTracked : (spans : ℕ → List Span) → (samples : ℕ → List Raw) → List TrackedOf → Type 0
AreTracked spans samples list = (place : ℕ) (t : TrackedOf) → slice_get list place ≡ Some t
    → Tracks (spans t.signal) (samples t.signal) t

-- a cell with a value
abbrev pub known_cell : Option (Option Raw) → Option (Option Raw)
known_cell None = None
known_cell (Some None) = None
known_cell (Some (Some value)) = Some (Some value)

-- the cells of signals by their periods and samples
abbrev pub cells_by : (spans : ℕ → List Span) → (samples : ℕ → List Raw) → (signal time : ℕ)
    → Option (Option Raw)
cells_by spans samples signal time = cell_of (spans signal) (samples signal) time

-- those with a value
abbrev pub known_by : (spans : ℕ → List Span) → (samples : ℕ → List Raw) → (signal time : ℕ)
    → Option (Option Raw)
known_by spans samples signal time = known_cell (cells_by spans samples signal time)

-- a signal has so many positions left without a sample
abbrev pub LeavesRest : Type 0
LeavesRest = (spans : List Span) (samples : List Raw) (t : TrackedOf) → Tracks spans samples t
    → t.stamps.left ≡ count_of_spans spans - length samples
