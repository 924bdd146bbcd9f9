-- The states that a block can be in (own): as many values as its names have, each in the range of
-- its format, and each rate within its limits.
use Rattle.std.specs.Prelude.{◌≡◌, ℕ, ◌+◌, ◌≤◌, ◌<◌, List, length, Option, Some, slice_get, slice_index, ℤ}
use Rattle.tdf_base.specs.Limits.{greatest_rate}
use Rattle.tdf_fixed.specs.Overflow.{IsOfWidth}
use Rattle.tdf_expr_semantics.specs.Places.{cell_shapes, sample_shapes, rate_limits, RateLimits, total, ports_of, events_of}
use Rattle.tdf_expr_symbols.specs.Names.{Names}
use Rattle.tdf_expr_symbols.specs.Scope.{OpenLoop, greatest_of}
use Rattle.tdf_expr_state.specs.State.{State, FrameState, PortsState, cell_at}
use Rattle.tdf_lang_tree.specs.declared.shapes.Shape.{Shape}

-- as many numbers as formats, each in the range of its format
pub record NumbersFit (shapes : List (Option Shape)) (nums : List ℤ) : Type 0 where
  pub long : length nums ≡ length shapes
  pub each : (j : ℕ) (s : Shape) → slice_get shapes j ≡ Some (Some s)
      → IsOfWidth s.signed s.wl (cell_at nums j)

-- as many rates as limits, each within its limits
pub record RatesFit (limits : List RateLimits) (rates : List ℕ) : Type 0 where
  pub long : length rates ≡ length limits
  pub each : (j : ℕ) (l : RateLimits) → slice_get limits j ≡ Some l
      → (l.least ≤ slice_index rates j) × (slice_index rates j ≤ l.greatest)

pub record FrameFits (own : Names) (frame : FrameState) : Type 0 where
  pub cells : NumbersFit (cell_shapes own) frame.cells
  pub rates : RatesFit (rate_limits own) frame.rates

pub record PortsFit (own : Names) (ports : PortsState) : Type 0 where
  pub samples : NumbersFit (sample_shapes own) ports.samples
  pub assigned : length ports.assigned ≡ total ports_of own.things
  pub notified : length ports.notified ≡ total events_of own.things
  pub steps : length ports.steps ≡ 1 + total ports_of own.things

pub record StateFits (own : Names) (s : State) : Type 0 where
  pub frame : FrameFits own s.frame
  pub ports : PortsFit own s.ports

-- each loop variable that is open is at a turn of its loop
pub record LoopsFit (own : Names) (loops : List OpenLoop) (turns : List ℕ) : Type 0 where
  pub long : length turns ≡ length loops
  pub each : (d : ℕ) (l : OpenLoop) → slice_get loops d ≡ Some l
      → (l.from ≤ slice_index turns d) × (slice_index turns d < greatest_of own l.end)
      × (greatest_of own l.end ≤ greatest_rate)
