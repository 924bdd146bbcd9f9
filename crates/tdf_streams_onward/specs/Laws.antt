-- What holds of streams that go on from what a cluster of a flat model holds.
-- Source: own.
use Rattle.std.specs.Prelude.{ℕ, ◌+◌, ◌≡◌, Some, List, ◌∷◌, ◌++◌, slice_get, ℤ}
use Rattle.tdf_bind.specs.declared.model.Flat.{Flat}
use Rattle.tdf_bind_invariants.specs.Limits.{AreWithinLimits}
use Rattle.tdf_dynamic_plans.specs.Attributes.{AttrsOf}
use Rattle.tdf_fixed.specs.declared.raw.Raw.{Raw}
use Rattle.tdf_lang_tree.specs.Pure.{PureTree}
use Rattle.tdf_streams.specs.Cluster.{Start, cluster_net}
use Rattle.tdf_streams.specs.Grounds.{firings}
use Rattle.tdf_streams.specs.Laws.{ClusterNet, ClusterPlay, ClusterRun, run_from}
use Rattle.tdf_streams.specs.Net.{Turn}
use Rattle.tdf_streams.specs.Periods.{PeriodInfo, PeriodRecord}
use Rattle.tdf_streams.specs.Stands.{AreActive, KeepsReads, Stands}
use Rattle.tdf_streams.specs.Starts.{AreRecords}
use Rattle.tdf_streams.specs.Streams.{known}
use Rattle.tdf_streams_onward.specs.Onward.{GoByKey, GoOnAs, IsEnough, IsRest, StartsFrom}
use Rattle.tdf_streams_onward.specs.Onward.{acts_before, started, taken_before}

-- what bodies look at of a period: its table of attributes
abbrev pub table_of : PeriodInfo → List AttrsOf
table_of info = info.table

abbrev pub BodiesGoByTable : Type 0
BodiesGoByTable = (model : PureTree) (flat : Flat) (cluster : ℕ) (begun : Start)
    → GoByKey table_of (cluster_net model flat cluster begun)

-- a cluster in progress, `old` and `p` its periods so far; `q` is what is left of the last of them;
-- `net` starts from what the cluster holds
pub record GoesOn (model : PureTree) (flat : Flat) (cluster : ℕ) (begun : Start)
    (old : List PeriodRecord) (p q : PeriodRecord) (reads : ℕ → List Raw) (f : ℕ)
    (y : ClusterPlay) (delay : ℕ → ℕ) (initial : ℕ → ℕ → Raw) (start : ℕ → List ℤ) : Type 0 where
  pub stands : Stands (cluster_net model flat cluster begun) old p reads f y
  pub active : AreActive (cluster_net model flat cluster begun) old p y
  pub rest : IsRest table_of p y q
  pub starts : StartsFrom (cluster_net model flat cluster begun) y delay initial start

abbrev pub net_from : PureTree → Flat → (cluster : ℕ) → Start → (delay : ℕ → ℕ)
    → (initial : ℕ → ℕ → Raw) → (start : ℕ → List ℤ) → ClusterNet
net_from model flat cluster begun delay initial start =
    started (cluster_net model flat cluster begun) delay initial start

-- the run of the whole streams, in periods that follow
abbrev pub whole_run : List PeriodRecord → PeriodRecord → List PeriodRecord → (ℕ → List Raw)
    → ClusterRun
whole_run old p later reads = record { periods = old ++ p ∷ later; reads = reads }

-- what is known of the streams that go on is known of the whole ones, with the numbers counted from
-- the start
abbrev pub ResumedAreWhole : Type 0
ResumedAreWhole = (model : PureTree) (flat : Flat) (cluster : ℕ) (begun : Start)
    → (old later : List PeriodRecord) (p q : PeriodRecord) (short long rest : ℕ → List Raw)
    → (f : ℕ) (y : ClusterPlay) (delay : ℕ → ℕ) (initial : ℕ → ℕ → Raw) (start : ℕ → List ℤ)
    → GoesOn model flat cluster begun old p q short f y delay initial start
    → KeepsReads short long
    → ((m n : ℕ) (x : Raw) → slice_get (rest m) n ≡ Some x
    → slice_get (long m) (acts_before old y m + n) ≡ Some x)
    → (g m n : ℕ) (t : Turn (List ℤ) Raw)
    → known (net_from model flat cluster begun delay initial start) (run_from q later rest) g m n
    ≡ Some t
    → known (cluster_net model flat cluster begun) (whole_run old p later long) (g + f) m
    (acts_before old y m + n) ≡ Some t

-- and what is known of the whole streams from the start on is known of those that go on
abbrev pub WholeAreResumed : Type 0
WholeAreResumed = (model : PureTree) (flat : Flat) (cluster : ℕ) (begun : Start)
    → (old later : List PeriodRecord) (p q : PeriodRecord) (short long rest : ℕ → List Raw)
    → (f : ℕ) (y : ClusterPlay) (delay : ℕ → ℕ) (initial : ℕ → ℕ → Raw) (start : ℕ → List ℤ)
    → GoesOn model flat cluster begun old p q short f y delay initial start
    → KeepsReads short long
    → ((m n : ℕ) (x : Raw) → slice_get (long m) (acts_before old y m + n) ≡ Some x
    → slice_get (rest m) n ≡ Some x)
    → (g m n : ℕ) (t : Turn (List ℤ) Raw)
    → known (cluster_net model flat cluster begun) (whole_run old p later long) g m
    (acts_before old y m + n) ≡ Some t
    → known (net_from model flat cluster begun delay initial start) (run_from q later rest) g m n
    ≡ Some t

-- what is known in some number of steps is known in as many as there are firings
abbrev pub FiringsAreEnough : Type 0
FiringsAreEnough = (model : PureTree) (flat : Flat) (cluster : ℕ) (start : Start)
    → (first : PeriodRecord) (later : List PeriodRecord) (reads : ℕ → List Raw)
    → AreWithinLimits flat → AreRecords flat cluster start first later
    → (d m n : ℕ) (t : Turn (List ℤ) Raw)
    → known (cluster_net model flat cluster start) (run_from first later reads) d m n ≡ Some t
    → known (cluster_net model flat cluster start) (run_from first later reads)
    (firings (first ∷ later)) m n ≡ Some t

-- so where as many steps as firings are enough in both, the streams that go on are those of the
-- whole run, counted from the start
abbrev pub StreamsGoOn : Type 0
StreamsGoOn = (model : PureTree) (flat : Flat) (cluster : ℕ) (begun : Start)
    → (old later : List PeriodRecord) (p q : PeriodRecord) (short long rest : ℕ → List Raw)
    → (f : ℕ) (y : ClusterPlay) (delay : ℕ → ℕ) (initial : ℕ → ℕ → Raw) (start : ℕ → List ℤ)
    → GoesOn model flat cluster begun old p q short f y delay initial start
    → KeepsReads short long
    → ((m n : ℕ) → slice_get (rest m) n ≡ slice_get (long m) (acts_before old y m + n))
    → IsEnough (cluster_net model flat cluster begun) (whole_run old p later long)
    → IsEnough (net_from model flat cluster begun delay initial start) (run_from q later rest)
    → GoOnAs (cluster_net model flat cluster begun) (whole_run old p later long)
    (net_from model flat cluster begun delay initial start) (run_from q later rest)
    (acts_before old y) (taken_before (cluster_net model flat cluster begun) old p y)
