-- What is held of one instance of a block (own): the values of its variables, elements and rates,
-- and the samples of its ports with what its bodies asked for.
use Rattle.std.specs.List.{flat_map}
use Rattle.std.specs.Prelude.{◌≡◌, ℕ, ◌+◌, ◌<◌, ◌≤◌, ◌^◌, Bool, true, false, if◌then◌else◌, List, [], ◌∷◌, ◌++◌, Option, ℤ, pos, length, map, replicate, take, drop, Some, None, slice_get}
use Rattle.tdf_expr.specs.Plans.{shape_written}
use Rattle.tdf_expr.specs.declared.spans.PortSpan.{PortSpan}
use Rattle.tdf_expr.specs.declared.spans.RateSpan.{RateSpan}
use Rattle.tdf_fixed.specs.Cast.{fraction_of}
use Rattle.tdf_fixed.specs.Overflow.{IsOfWidth}
use Rattle.tdf_fixed.specs.declared.format.Format.{Format}
use Rattle.tdf_fixed.specs.declared.raw.Raw.{Raw}
use Rattle.tdf_expr_semantics.specs.Fits.{NumbersFit, RatesFit}
use Rattle.tdf_expr_semantics.specs.Places.{RateLimits}
use Rattle.tdf_expr_state.specs.Resets.{none_set, no_times}
use Rattle.tdf_expr_state.specs.State.{FrameState, PortsState, cell_at}
use Rattle.tdf_lang_tree.specs.declared.blocks.PortKind.{PortKind}
use Rattle.tdf_lang_tree.specs.declared.blocks.PortKind.TheVariants.{In, Out, DeIn, DeOut}
use Rattle.tdf_lang_tree.specs.declared.shapes.Shape.{Shape}

-- a value of a format
pub record IsOfFormat (f : Format) (value : Raw) : Type 0 where
  pub frac : value.frac ≡ fraction_of f
  pub num : IsOfWidth f.signed f.wl value.num

abbrev pub limits_of_rate : RateSpan → RateLimits
limits_of_rate r = record { least = r.least; greatest = r.greatest }

-- a value within a rate variable's limits
pub record IsAllowedRate (r : RateSpan) (value : ℕ) : Type 0 where
  pub least : r.least ≤ value
  pub greatest : value ≤ r.greatest

-- the values of an instance, with the format of each cell and the limits of each rate variable
pub record FrameSeen : Type 0 where
  pub formats : List Format
  pub rates : List RateSpan
  pub state : FrameState

-- each value is of its format, and each rate within its limits
pub record IsFrameFit (f : FrameSeen) : Type 0 where
  pub few : length f.formats ≤ 2 ^ 31
  pub cells : NumbersFit (map shape_written f.formats) f.state.cells
  pub rates : RatesFit (map limits_of_rate f.rates) f.state.rates

-- the ports of an instance, with their samples and what its bodies asked for
pub record PortsSeen : Type 0 where
  pub spans : List PortSpan
  pub state : PortsState

-- the format of each sample, port after port
abbrev pub sample_formats : List PortSpan → List (Option Shape)
sample_formats spans = flat_map (λ p. replicate p.count (shape_written p.format)) spans

-- the samples of each port come after those of the port before
abbrev pub AreConsecutive : (first : ℕ) → List PortSpan → Type 0
AreConsecutive first [] = Unit {0}
AreConsecutive first (p ∷ ps) = (p.first ≡ first) × AreConsecutive (first + p.count) ps

-- each sample is of its port's format
pub record ArePortsFit (p : PortsSeen) : Type 0 where
  pub placed : AreConsecutive 0 p.spans
  pub samples : NumbersFit (sample_formats p.spans) p.state.samples
  pub assigned : length p.state.assigned ≡ length p.spans
  pub steps : length p.state.steps ≡ 1 + length p.spans

-- a body writes the samples of `out` and `de_out` ports
abbrev pub is_written : PortKind → Bool
is_written In = false
is_written Out = true
is_written DeIn = false
is_written DeOut = true

abbrev pub reset_port : PortSpan → List ℤ → List ℤ
reset_port p nums = if is_written p.word then replicate p.count (pos 0) else take p.count nums

-- the samples of the ports that a body writes are 0; all others stay
abbrev pub reset_samples : List PortSpan → List ℤ → List ℤ
reset_samples [] nums = nums
reset_samples (p ∷ ps) nums = reset_port p nums ++ reset_samples ps (drop p.count nums)

-- the samples of the ports that bodies read are the same
pub record KeepsRead (old new : PortsSeen) : Type 0 where
  pub same : (n k : ℕ) (p : PortSpan) → slice_get old.spans n ≡ Some p
      → is_written p.word ≡ false → k < p.count
      → cell_at new.state.samples (p.first + k) ≡ cell_at old.state.samples (p.first + k)

-- how an activation begins: nothing is written, and nothing is asked for
abbrev pub reset_state : List PortSpan → PortsState → PortsState
reset_state spans s = record {
  samples = reset_samples spans s.samples;
  assigned = none_set s.assigned;
  notified = no_times s.notified;
  steps = no_times s.steps;
  accepts = None;
  out_of_range = false;
}
