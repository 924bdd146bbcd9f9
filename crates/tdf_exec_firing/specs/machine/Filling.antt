-- How the ports of a module are filled (own): wire by wire, and sample by sample.
use Rattle.std.specs.List.{All}
use Rattle.std.specs.Prelude.{◌≡◌, ℕ, ◌+◌, ◌<◌, ◌≤◌, ◌⊎◌, false, if◌then◌else◌, List, length, map, replicate, Some, None, ℤ, pos, slice_get, slice_index}
use Rattle.tdf_expr.specs.Frames.{IsOfFormat, PortsSeen, is_written}
use Rattle.tdf_expr.specs.declared.spans.PortSpan.{PortSpan}
use Rattle.tdf_exec_firing.specs.Activation.{num_of}
use Rattle.tdf_exec_firing.specs.Firing.{with_samples}
use Rattle.tdf_exec_firing.specs.declared.wires.InWire.{InWire}
use Rattle.tdf_fixed.specs.declared.raw.Raw.{Raw}
use Rattle.tdf_rings.specs.Carried.{ring_at}
use Rattle.tdf_rings.specs.Rings.{RingOf}
use Rattle.tdf_expr_state.specs.State.{cell_at}

-- the number of sample k, 0 where there is none
abbrev pub num_at : List Raw → ℕ → ℤ
num_at list k = cell_at (map num_of list) k

-- nothing is written or asked for, and the samples that bodies write are 0
pub record IsCleared (old new : PortsSeen) : Type 0 where
  pub spans : new.spans ≡ old.spans
  pub state : new.state ≡ record {
    samples = new.state.samples;
    assigned = replicate (length old.spans) false;
    notified = replicate (length old.state.notified) None;
    steps = replicate (1 + length old.spans) None;
    accepts = None;
    out_of_range = false;
  }
  pub cells : (n k : ℕ) (p : PortSpan) → slice_get old.spans n ≡ Some p → k < p.count
      → cell_at new.state.samples (p.first + k)
      ≡ (if is_written p.word then pos 0 else cell_at old.state.samples (p.first + k))

-- a port can get the first n of these samples
pub record CanFill (port n : ℕ) (list : List Raw) (ports : PortsSeen) : Type 0 where
  pub there : port < length ports.spans
  pub present : n ≤ length list
  pub rate : (p : PortSpan) → slice_get ports.spans port ≡ Some p → n ≤ p.count
  pub inside : (p : PortSpan) → slice_get ports.spans port ≡ Some p
      → p.first + p.count ≤ length ports.state.samples
  pub formats : (p : PortSpan) → slice_get ports.spans port ≡ Some p
      → All (IsOfFormat p.format) list

-- a port has the first n of these samples; all others are as they were
pub record IsFilled (port n : ℕ) (list : List Raw) (old new : PortsSeen) : Type 0 where
  pub rest : new ≡ with_samples new.state.samples old
  pub long : length new.state.samples ≡ length old.state.samples
  pub here : (p : PortSpan) (k : ℕ) → slice_get old.spans port ≡ Some p → k < n
      → cell_at new.state.samples (p.first + k) ≡ num_at list k
  pub others : (p : PortSpan) (i : ℕ) → slice_get old.spans port ≡ Some p
      → (i < p.first) ⊎ (p.first + n ≤ i)
      → cell_at new.state.samples i ≡ cell_at old.state.samples i

-- how many samples the port of a wire gets, and from where
abbrev pub count_read : List ℕ → InWire → ℕ
count_read reads w = slice_index reads w.edge

abbrev pub list_read : List RingOf → InWire → List Raw
list_read rings w = (ring_at rings w.edge).samples

-- the ports of the wires before place n have the first samples of their lists; all others are as
-- they were
pub record AreFilledUpTo (ins : List InWire) (count : InWire → ℕ) (list : InWire → List Raw)
    (n : ℕ) (old new : PortsSeen) : Type 0 where
  pub rest : new ≡ with_samples new.state.samples old
  pub long : length new.state.samples ≡ length old.state.samples
  pub filled : (j k : ℕ) (w : InWire) (p : PortSpan) → j < n → slice_get ins j ≡ Some w
      → slice_get old.spans w.port ≡ Some p → k < count w
      → cell_at new.state.samples (p.first + k) ≡ num_at (list w) k
  pub others : (m k : ℕ) (p : PortSpan) → slice_get old.spans m ≡ Some p → k < p.count
      → ((j : ℕ) (w : InWire) → j < n → slice_get ins j ≡ Some w → w.port ≡ m → count w ≤ k)
      → cell_at new.state.samples (p.first + k) ≡ cell_at old.state.samples (p.first + k)
