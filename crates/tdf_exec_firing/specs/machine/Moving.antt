-- How rings change one after another (own).
use Rattle.std.specs.Prelude.{◌≡◌, ℕ, ◌+◌, ◌<◌, ◌≤◌, List, ◌++◌, length, drop, Some, slice_get, slice_index}
use Rattle.tdf_expr.specs.Frames.{PortsSeen}
use Rattle.tdf_expr.specs.declared.spans.PortSpan.{PortSpan}
use Rattle.tdf_exec_firing.specs.Firing.{front_of}
use Rattle.tdf_exec_firing.specs.declared.wires.InWire.{InWire}
use Rattle.tdf_exec_firing.specs.declared.wires.OutWire.{OutWire}
use Rattle.tdf_fixed.specs.declared.raw.Raw.{Raw}
use Rattle.tdf_rings.specs.Carried.{ring_at}
use Rattle.tdf_rings.specs.Rings.{RingOf, ring_of}

-- the rings that the first n things of a list name are changed, each by its own; the others aren't
pub record AreChangedUpTo {A : Type 0} (edge : A → ℕ) (change : A → RingOf → RingOf)
    (list : List A) (n : ℕ) (old new : List RingOf) : Type 0 where
  pub same : length new ≡ length old
  pub changed : (j : ℕ) (x : A) → j < n → slice_get list j ≡ Some x
      → ring_at new (edge x) ≡ change x (ring_at old (edge x))
  pub waiting : (e : ℕ) → ((j : ℕ) (x : A) → j < n → slice_get list j ≡ Some x → edge x ≡ e → ⊥)
      → ring_at new e ≡ ring_at old e

-- no two things of a list name one ring
pub record AreApart {A : Type 0} (edge : A → ℕ) (list : List A) (rings : ℕ) : Type 0 where
  pub inside : (j : ℕ) (x : A) → slice_get list j ≡ Some x → edge x < rings
  pub once : (i j : ℕ) (x y : A) → slice_get list i ≡ Some x → slice_get list j ≡ Some y
      → edge x ≡ edge y → i ≡ j

abbrev pub in_edge : InWire → ℕ
in_edge w = w.edge

abbrev pub out_edge : OutWire → ℕ
out_edge w = w.edge

-- the first n samples are gone
abbrev pub without : ℕ → RingOf → RingOf
without n ring = ring_of (drop n ring.samples) ring.capacity

-- more samples at the end
abbrev pub with_more : List Raw → RingOf → RingOf
with_more list ring = ring_of (ring.samples ++ list) ring.capacity

abbrev pub taken_by : List ℕ → InWire → RingOf → RingOf
taken_by reads w ring = without (slice_index reads w.edge) ring

abbrev pub put_by : List ℕ → PortsSeen → OutWire → RingOf → RingOf
put_by writes ports w ring =
    with_more (front_of ports (Some w.port) (slice_index writes w.edge)) ring

-- a port has this many samples, and a ring has room for them
pub record CanGive (port n : ℕ) (ports : PortsSeen) (ring : RingOf) : Type 0 where
  pub there : port < length ports.spans
  pub rate : (p : PortSpan) → slice_get ports.spans port ≡ Some p → n ≤ p.count
  pub room : length ring.samples + n ≤ ring.capacity
