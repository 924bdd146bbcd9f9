-- How the code finds samples (own), and how it sets those back that bodies write: stretch after
-- stretch, in place.
use Rattle.std.specs.Prelude.{if◌then◌else◌, List, [], ◌∷◌}
use Rattle.tdf_expr.specs.Frames.{is_written}
use Rattle.tdf_expr.specs.declared.samples.SamplePlace.{SamplePlace}
use Rattle.tdf_expr.specs.declared.samples.Stretch.{Stretch}
use Rattle.tdf_expr.specs.declared.spans.PortSpan.{PortSpan}
use Rattle.tdf_fixed.specs.Cast.{fraction_of}
use Rattle.tdf_expr_state.specs.Resets.{with_zeros}
use Rattle.tdf_expr_state.specs.State.{PortsState}

-- what a sample of a port needs of its span
abbrev pub sample_place : PortSpan → SamplePlace
sample_place p = record { first = p.first; frac = fraction_of p.format }

-- where the samples of a port stand, where bodies write it
abbrev pub stretch_of : PortSpan → Stretch
stretch_of p = record { first = p.first; count = p.count }

abbrev pub written_in : List PortSpan → List Stretch
written_in [] = []
written_in (p ∷ ps) = if is_written p.word then stretch_of p ∷ written_in ps else written_in ps

unfoldable pub zeroed_one : Stretch → PortsState → PortsState
zeroed_one p s = record s { samples = with_zeros p.first p.count s.samples }

unfoldable pub zeroed : List Stretch → PortsState → PortsState
zeroed [] s = s
zeroed (p ∷ ps) s = zeroed ps (zeroed_one p s)
