-- Rings that get new capacities and keep their samples.
-- Source: own.
use Rattle.std.specs.Prelude.{ℕ, ◌<◌, ◌≤◌, ◌≡◌, List, [], length, slice_index, slice_index_or}
use Rattle.tdf_rings.specs.Rings.{RingOf, ring_of}

abbrev pub ring_at : List RingOf → ℕ → RingOf
ring_at rings e = slice_index_or rings e (ring_of [] 0)

-- each ring has a bound that holds its samples
pub record FitIn (bounds : List ℕ) (rings : List RingOf) : Type 0 where
  pub same : length bounds ≡ length rings
  pub fits : (e : ℕ) → e < length rings
      → length (ring_at rings e).samples ≤ slice_index bounds e

-- the rings have the same samples, with the bounds as capacities
pub record AreCarried (bounds : List ℕ) (old new : List RingOf) : Type 0 where
  pub same : length new ≡ length old
  pub moved : (e : ℕ) → e < length old
      → ring_at new e ≡ ring_of (ring_at old e).samples (slice_index bounds e)
