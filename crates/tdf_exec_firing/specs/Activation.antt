-- An activation of a module: the samples of its ports before the body runs, and a sample of a port
-- that it writes after that.
-- Source: IEEE 1666.1-2016, processing of TDF modules; that written samples begin at 0 is own.
use Rattle.std.specs.Prelude.{ℕ, ◌+◌, ◌-◌, false, List, [], ◌∷◌, ◌++◌, length, map, replicate, take, Option, Some, None, ℤ, pos, slice_get}
use Rattle.tdf_expr.specs.declared.spans.PortSpan.{PortSpan}
use Rattle.tdf_fixed.specs.Cast.{fraction_of}
use Rattle.tdf_fixed.specs.declared.raw.Raw.{Raw}
use Rattle.tdf_expr_state.specs.State.{PortsState, cell_at}

abbrev pub num_of : Raw → ℤ
num_of x = x.num

-- the samples of a port: those that it reads, then 0 up to its greatest rate
abbrev pub port_samples : PortSpan → List Raw → List ℤ
port_samples p read = take p.count (map num_of read) ++ replicate (p.count - length read) (pos 0)

-- those of the ports from a place on, port after port; `read` has by place what a port reads, which
-- is nothing for a port that the body writes
unfoldable pub samples_from : (read : ℕ → List Raw) → ℕ → List PortSpan → List ℤ
samples_from read place [] = []
samples_from read place (p ∷ ps) =
    port_samples p (read place) ++ samples_from read (place + 1) ps

-- the ports before a body runs: nothing is written, and nothing is asked for
abbrev pub ports_before : List PortSpan → (events : ℕ) → (read : ℕ → List Raw) → PortsState
ports_before spans events read = record {
  samples = samples_from read 0 spans;
  assigned = replicate (length spans) false;
  notified = replicate events None;
  steps = replicate (1 + length spans) None;
  accepts = None;
  out_of_range = false;
}

-- sample k of a port
abbrev pub sample_of_span : List ℤ → ℕ → Option PortSpan → Raw
sample_of_span samples k None = record { num = pos 0; frac = 0 }
sample_of_span samples k (Some p) =
    record { num = cell_at samples (p.first + k); frac = fraction_of p.format }

abbrev pub assigned_sample : List PortSpan → List ℤ → (port k : ℕ) → Raw
assigned_sample spans samples port k = sample_of_span samples k (slice_get spans port)
