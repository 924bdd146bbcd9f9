-- One firing of a module (own): it takes the samples that it reads from the rings of its edges, its
-- processing body runs, and it puts the samples that it writes on rings.
use Rattle.std.specs.List.{All, list_any, range_with_len}
use Rattle.std.specs.Prelude.{◌≡◌, ℕ, ◌+◌, ◌<◌, ◌≤◌, Bool, false, if◌then◌else◌, nat_eq, List, [], ◌∷◌, ◌++◌, length, map, replicate, take, drop, slice_get, slice_index, Option, Some, None, ℤ, pos}
use Rattle.tdf_expr.specs.Frames.{FrameSeen, IsOfFormat, PortsSeen, is_written}
use Rattle.tdf_expr.specs.Made.{event_count}
use Rattle.tdf_expr.specs.Runs.{Ran}
use Rattle.tdf_expr.specs.declared.bodies.Body.TheVariants.{Processing}
use Rattle.tdf_expr.specs.declared.checked.Checked.{Checked}
use Rattle.tdf_expr.specs.declared.spans.PortSpan.{PortSpan}
use Rattle.tdf_exec_firing.specs.Activation.{ports_before, assigned_sample}
use Rattle.tdf_exec_firing.specs.Wires.{WiresOf}
use Rattle.tdf_exec_firing.specs.declared.wires.InWire.{InWire}
use Rattle.tdf_exec_firing.specs.declared.wires.OutWire.{OutWire}
use Rattle.tdf_fixed.specs.declared.raw.Raw.{Raw}
use Rattle.tdf_rings.specs.Carried.{ring_at}
use Rattle.tdf_rings.specs.Rings.{RingOf, ring_of}
use Rattle.tdf_expr_state.specs.State.{cell_at, state_of}

-- ports with other samples
abbrev pub with_samples : List ℤ → PortsSeen → PortsSeen
with_samples samples ports = record ports { state = record ports.state { samples = samples } }

-- the wire of a port
abbrev pub wire_of : List InWire → (port : ℕ) → Option InWire
wire_of [] port = None
wire_of (w ∷ ws) port = if nat_eq w.port port then Some w else wire_of ws port

-- how many samples a port reads in one activation; none without an edge
abbrev pub rate_on : (reads : List ℕ) → Option InWire → ℕ
rate_on reads None = 0
rate_on reads (Some w) = slice_index reads w.edge

-- those samples: the first of the edge's ring
abbrev pub read_on : (reads : List ℕ) → List RingOf → Option InWire → List Raw
read_on reads rings None = []
read_on reads rings (Some w) = take (slice_index reads w.edge) (ring_at rings w.edge).samples

abbrev pub samples_read : WiresOf → (reads : List ℕ) → List RingOf → (port : ℕ) → List Raw
samples_read wires reads rings port = read_on reads rings (wire_of wires.ins port)

-- whether some port of the module reads an edge
abbrev pub is_read : List InWire → (edge : ℕ) → Bool
is_read ins edge = list_any (λ w. nat_eq w.edge edge) ins

-- the port that writes an edge
abbrev pub writer_of : List OutWire → (edge : ℕ) → Option ℕ
writer_of [] edge = None
writer_of (w ∷ ws) edge = if nat_eq w.edge edge then Some w.port else writer_of ws edge

-- the first samples of a port
abbrev pub front_of : PortsSeen → Option ℕ → (count : ℕ) → List Raw
front_of ports None count = []
front_of ports (Some port) count =
    map (λ k. assigned_sample ports.spans ports.state.samples port k) (range_with_len 0 count)

-- the samples of an edge once the module has read it
abbrev pub left_on : WiresOf → (reads : List ℕ) → (edge : ℕ) → List Raw → List Raw
left_on wires reads edge samples =
    if is_read wires.ins edge then drop (slice_index reads edge) samples else samples

-- the samples that the module writes to an edge
abbrev pub written_to : WiresOf → (writes : List ℕ) → PortsSeen → (edge : ℕ) → List Raw
written_to wires writes ports edge =
    front_of ports (writer_of wires.outs edge) (slice_index writes edge)

-- each ring after a firing: first the samples that are read are gone, then those that are written
-- are there; a ring that the module neither reads nor writes is as it was
pub record AreMoved (wires : WiresOf) (reads writes : List ℕ) (ports : PortsSeen)
    (old new : List RingOf) : Type 0 where
  pub same : length new ≡ length old
  pub moved : (e : ℕ) → e < length old → ring_at new e ≡ ring_of
      (left_on wires reads e (ring_at old e).samples ++ written_to wires writes ports e)
      (ring_at old e).capacity

-- a ring for each edge, and a rate in force for each
pub record AreEdgeRates (reads writes : List ℕ) (edges : ℕ) : Type 0 where
  pub to_read : length reads ≡ edges
  pub to_write : length writes ≡ edges

-- what a firing needs: no rate above the port's greatest, the samples that are read, and room for
-- those that are written, once the first are gone
pub record CanFire (wires : WiresOf) (reads writes : List ℕ) (spans : List PortSpan)
    (rings : List RingOf) : Type 0 where
  pub in_rate : (j : ℕ) (w : InWire) (p : PortSpan) → slice_get wires.ins j ≡ Some w
      → slice_get spans w.port ≡ Some p → slice_index reads w.edge ≤ p.count
  pub present : (j : ℕ) (w : InWire) → slice_get wires.ins j ≡ Some w
      → slice_index reads w.edge ≤ length (ring_at rings w.edge).samples
  pub out_rate : (j : ℕ) (w : OutWire) (p : PortSpan) → slice_get wires.outs j ≡ Some w
      → slice_get spans w.port ≡ Some p → slice_index writes w.edge ≤ p.count
  pub room : (j : ℕ) (w : OutWire) → slice_get wires.outs j ≡ Some w
      → length (left_on wires reads w.edge (ring_at rings w.edge).samples)
      + slice_index writes w.edge ≤ (ring_at rings w.edge).capacity

-- what lies on an edge that a port reads is of the port's format
pub record AreOfFormats (wires : WiresOf) (spans : List PortSpan) (rings : List RingOf)
    : Type 0 where
  pub each : (j : ℕ) (w : InWire) (p : PortSpan) → slice_get wires.ins j ≡ Some w
      → slice_get spans w.port ≡ Some p
      → All (IsOfFormat p.format) (ring_at rings w.edge).samples

-- after the samples that a port reads, the others of a port that bodies read are 0
pub record AreZerosBehind (wires : WiresOf) (reads : List ℕ) (ports : PortsSeen) : Type 0 where
  pub zero : (n k : ℕ) (p : PortSpan) → slice_get ports.spans n ≡ Some p
      → is_written p.word ≡ false → rate_on reads (wire_of wires.ins n) ≤ k → k < p.count
      → cell_at ports.state.samples (p.first + k) ≡ pos 0

-- ports whose samples are all 0 have zeros behind what they read, at all rates
abbrev pub BeginReady : Type 0
BeginReady = (wires : WiresOf) (reads : List ℕ) (ports : PortsSeen) (count : ℕ)
    → ports.state.samples ≡ replicate count (pos 0) → AreZerosBehind wires reads ports

-- each sample of each port is of the port's format
pub record HoldFormats (ports : PortsSeen) : Type 0 where
  pub each : (n k : ℕ) (p : PortSpan) → slice_get ports.spans n ≡ Some p → k < p.count
      → IsOfFormat p.format (assigned_sample ports.spans ports.state.samples n k)

-- what the processing body did, from the values before the firing and the samples that are read
abbrev pub HasActed : Checked → (number : ℕ) → (read : ℕ → List Raw) → FrameSeen → PortsSeen
    → FrameSeen → PortsSeen → Type 0
HasActed checked number read frame ports new_frame new_ports = Ran checked number Processing
    (state_of frame.state (ports_before ports.spans (event_count checked number) read))
    (state_of new_frame.state new_ports.state)
