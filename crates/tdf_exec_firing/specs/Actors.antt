-- One firing of a sampler and of a sink (own): a sampler puts one value on each of its edges, a
-- sink takes one sample from its edge.
use Rattle.std.specs.List.{list_any}
use Rattle.std.specs.Prelude.{◌≡◌, ℕ, ◌<◌, if◌then◌else◌, nat_eq, List, [], ◌∷◌, ◌++◌, length, drop, Some, slice_get}
use Rattle.tdf_fixed.specs.declared.raw.Raw.{Raw}
use Rattle.tdf_rings.specs.Carried.{ring_at}
use Rattle.tdf_rings.specs.Rings.{RingOf, ring_of}

-- each edge is one of the rings, none is named twice, and each has room for a sample
pub record CanPutOne (edges : List ℕ) (rings : List RingOf) : Type 0 where
  pub inside : (j e : ℕ) → slice_get edges j ≡ Some e → e < length rings
  pub once : (i j d e : ℕ) → slice_get edges i ≡ Some d → slice_get edges j ≡ Some e → d ≡ e
      → i ≡ j
  pub room : (j e : ℕ) → slice_get edges j ≡ Some e
      → length (ring_at rings e).samples < (ring_at rings e).capacity

-- what a sampler puts on an edge
abbrev pub value_on : Raw → List ℕ → (edge : ℕ) → List Raw
value_on value edges edge = if list_any (λ e. nat_eq e edge) edges then value ∷ [] else []

-- each edge of the sampler has one sample more; the others are as they were
pub record HavePut (value : Raw) (edges : List ℕ) (old new : List RingOf) : Type 0 where
  pub same : length new ≡ length old
  pub put : (e : ℕ) → e < length old → ring_at new e
      ≡ ring_of ((ring_at old e).samples ++ value_on value edges e) (ring_at old e).capacity

-- the edge of the sink has one sample less; the others are as they were
pub record HasTaken (edge : ℕ) (old new : List RingOf) : Type 0 where
  pub same : length new ≡ length old
  pub taken : (e : ℕ) → e < length old → ring_at new e ≡ ring_of
      (if nat_eq edge e then drop 1 (ring_at old e).samples else (ring_at old e).samples)
      (ring_at old e).capacity
