-- A ring: the samples that an edge holds, in order, and how many it may hold.
-- Source: own.
use Rattle.std.specs.Prelude.{ℕ, List}
use Rattle.tdf_fixed.specs.declared.raw.Raw.{Raw}

pub record RingOf : Type 0 where
  pub samples : List Raw
  pub capacity : ℕ

abbrev pub ring_of : List Raw → ℕ → RingOf
ring_of samples capacity = record { samples = samples; capacity = capacity }
