-- The new rings, made before anything is moved, and how they are placed.
use Rattle.std.specs.Prelude.{ℕ, ◌<◌, ◌≤◌, ◌≡◌, Option, Some, None, List, length, nat_eq, slice_index, slice_index_or, if◌then◌else◌}
use Rattle.tdf_rings.specs.Carried.{ring_at}
use Rattle.tdf_rings.specs.Rings.{RingOf, ring_of}

-- the new ring of an edge, where its bound differs
abbrev pub fresh_of : RingOf → ℕ → Option RingOf
fresh_of ring bound =
    if nat_eq ring.capacity bound then None else Some (ring_of ring.samples bound)

-- those before place n
pub record AreFresh (rings : List RingOf) (bounds : List ℕ) (n : ℕ) (fresh : List (Option RingOf))
    : Type 0 where
  pub count : length fresh ≡ n
  pub each : (e : ℕ) → e < n
      → slice_index_or fresh e None ≡ fresh_of (ring_at rings e) (slice_index bounds e)

-- the rings before place n have the same samples, with the bounds as capacities; the others are as
-- they were
pub record AreCarriedUpTo (bounds : List ℕ) (n : ℕ) (old new : List RingOf) : Type 0 where
  pub same : length new ≡ length old
  pub moved : (e : ℕ) → e < n
      → ring_at new e ≡ ring_of (ring_at old e).samples (slice_index bounds e)
  pub waiting : (e : ℕ) → n ≤ e → ring_at new e ≡ ring_at old e
