-- What a cluster has by edge of the flat model: the rates in force, in samples an activation, and
-- the samples that are held.
-- Source: own.
use Rattle.std.specs.Prelude.{ℕ, List}
use Rattle.tdf_rings.specs.Rings.{RingOf}

pub record EdgesOf : Type 0 where
  pub reads : List ℕ
  pub writes : List ℕ
  pub rings : List RingOf

-- other samples are held
abbrev pub with_rings : List RingOf → EdgesOf → EdgesOf
with_rings rings edges = record edges { rings = rings }
