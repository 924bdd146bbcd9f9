-- The samplers that are due at a time get the values of their signals.
-- Source: IEEE 1666.1-2016, converter ports of TDF modules.
use Rattle.std.specs.Prelude.{◌≡◌, ◌-◌, ◌<◌, ◌≤◌, ℕ, true, false, List, Some, length, slice_get}
use Rattle.tdf_convert.specs.Links.{AreLinks, HaveSignals}
use Rattle.tdf_convert.specs.Sampled.{AreSampled}
use Rattle.tdf_convert.specs.declared.links.Links.{Links}
use Rattle.tdf_sim_refinement.specs.Below.{ClusterOf, is_next_due}
use Rattle.tdf_fixed.specs.declared.raw.Raw.{Raw}

-- a time, the start of the period of each cluster, and which signals their samplers have
pub record SamplingAt : Type 0 where
  pub time : ℕ
  pub since : List ℕ
  pub clusters : List ClusterOf
  pub links : List Links
  pub values : List Raw

abbrev pub sampling_at : (time : ℕ) → (since : List ℕ) → List ClusterOf → List Links → List Raw
    → SamplingAt
sampling_at time since clusters links values = record {
  time = time;
  since = since;
  clusters = clusters;
  links = links;
  values = values;
}

-- the samplers of the first n clusters that are due have the values of their signals, and those of
-- a cluster of which nothing is due have what they had
pub record HaveSampled (at : SamplingAt) (n : ℕ) (old new : List (List Raw)) : Type 0 where
  pub same : length new ≡ length old
  pub long : (m : ℕ) (i j : List Raw) → slice_get old m ≡ Some i → slice_get new m ≡ Some j
      → length j ≡ length i
  pub due : (m s : ℕ) (c : ClusterOf) (l : Links) (i j : List Raw) → m < n
      → slice_get at.since m ≡ Some s → slice_get at.clusters m ≡ Some c
      → slice_get at.links m ≡ Some l → slice_get old m ≡ Some i → slice_get new m ≡ Some j
      → is_next_due c (at.time - s) ≡ true
      → AreSampled c.entries (at.time - s) l.list.items at.values i j
  pub idle : (m s : ℕ) (c : ClusterOf) (i j : List Raw) → m < n
      → slice_get at.since m ≡ Some s → slice_get at.clusters m ≡ Some c
      → slice_get old m ≡ Some i → slice_get new m ≡ Some j
      → is_next_due c (at.time - s) ≡ false → j ≡ i
  pub rest : (m : ℕ) → n ≤ m → slice_get new m ≡ slice_get old m

-- so it can be done: each cluster has a start, its links and its inputs
pub record CanSample (at : SamplingAt) (given : List (List Raw)) : Type 0 where
  pub since : length at.since ≡ length at.clusters
  pub links : length at.links ≡ length at.clusters
  pub inputs : length given ≡ length at.clusters
  pub begun : (n s : ℕ) → slice_get at.since n ≡ Some s → s ≤ at.time
  pub placed : (n : ℕ) (l : Links) (i : List Raw) → slice_get at.links n ≡ Some l
      → slice_get given n ≡ Some i → AreLinks l.list.items (length i)
  pub signals : (n : ℕ) (l : Links) → slice_get at.links n ≡ Some l
      → HaveSignals l.list.items (length at.values)
