-- What keeps a cluster in progress standing for its streams, step by step.
-- Source: own.
use Rattle.std.specs.Prelude.{ℕ, suc, ◌+◌, ◌<◌, ◌≡◌, List, [], ◌∷◌, ◌++◌, length, slice_index, slice_index_or, ℤ}
use Rattle.tdf_bind_invariants.specs.Below.{Flat}
use Rattle.tdf_bind_invariants.specs.Limits.{AreWithinLimits}
use Rattle.tdf_fixed.specs.declared.raw.Raw.{Raw}
use Rattle.tdf_lang_tree.specs.Pure.{PureTree}
use Rattle.tdf_streams.specs.Cluster.{Start, cluster_net}
use Rattle.tdf_streams.specs.Firing.{Flows, IsNextTurn, IsPresent}
use Rattle.tdf_streams.specs.Laws.{ClusterPlay, StandsAtHead}
use Rattle.tdf_streams.specs.Net.{Turn}
use Rattle.tdf_streams.specs.Periods.{PeriodRecord}
use Rattle.tdf_streams.specs.Stands.{AreActive, Changed, Crosses, Installed, IsStart, KeepsReads, Stands}
use Rattle.tdf_streams.specs.Starts.{ArePast, held_at_head}

-- a cluster at its start stands, in the first period and with nothing followed
abbrev pub StartStands : Type 0
StartStands = (model : PureTree) (flat : Flat) (cluster : ℕ) (start : Start) (p : PeriodRecord)
    → (reads : ℕ → List Raw) (y : ClusterPlay) → IsStart (cluster_net model flat cluster start) y
    → Stands (cluster_net model flat cluster start) [] p reads 0 y

-- what stands, stands for further values of samplers
abbrev pub ReadsKeep : Type 0
ReadsKeep = (model : PureTree) (flat : Flat) (cluster : ℕ) (start : Start)
    → (old : List PeriodRecord) (p : PeriodRecord) (short long : ℕ → List Raw) (f : ℕ)
    → (y : ClusterPlay) → KeepsReads short long
    → Stands (cluster_net model flat cluster start) old p short f y
    → Stands (cluster_net model flat cluster start) old p long f y

-- a firing whose samples are present leads from what stands to what stands
abbrev pub FiringKeeps : Type 0
FiringKeeps = (model : PureTree) (flat : Flat) (cluster : ℕ) (start : Start)
    → (old : List PeriodRecord) (p : PeriodRecord) (reads : ℕ → List Raw) (f m : ℕ)
    → (t : Turn (List ℤ) Raw) (y z : ClusterPlay)
    → Stands (cluster_net model flat cluster start) old p reads f y
    → slice_index y.turns m < slice_index p.counts m
    → IsPresent (cluster_net model flat cluster start) p m y
    → IsNextTurn (cluster_net model flat cluster start) old p reads m y t
    → Flows (cluster_net model flat cluster start) p m t y z
    → Stands (cluster_net model flat cluster start) old p reads (suc f) z

-- at the end of a period the change bodies lead from standing to crossing
abbrev pub ChangeCrosses : Type 0
ChangeCrosses = (model : PureTree) (flat : Flat) (cluster : ℕ) (start : Start)
    → (old : List PeriodRecord) (p : PeriodRecord) (reads : ℕ → List Raw) (f : ℕ)
    → (y z : ClusterPlay) → ((m : ℕ) → slice_index y.turns m ≡ slice_index p.counts m)
    → Stands (cluster_net model flat cluster start) old p reads f y
    → Changed (cluster_net model flat cluster start) old p y z
    → Crosses (cluster_net model flat cluster start) old p reads f z

-- and the reinitialize bodies lead from there to standing in the next period, whatever its rates
abbrev pub InstallStands : Type 0
InstallStands = (model : PureTree) (flat : Flat) (cluster : ℕ) (start : Start)
    → (old : List PeriodRecord) (p next : PeriodRecord) (reads : ℕ → List Raw) (f : ℕ)
    → (y z : ClusterPlay) → AreActive (cluster_net model flat cluster start) old p y
    → Crosses (cluster_net model flat cluster start) old p reads f y
    → Installed (cluster_net model flat cluster start) next y z
    → Stands (cluster_net model flat cluster start) (old ++ p ∷ []) next reads f z

-- at the head of each whole period every edge holds as many samples as the delays of its ports say
abbrev pub HeadsWhole : Type 0
HeadsWhole = (model : PureTree) (flat : Flat) (cluster : ℕ) (start : Start)
    → (old : List PeriodRecord) (p : PeriodRecord) (reads : ℕ → List Raw) (f : ℕ)
    → (y : ClusterPlay) → AreWithinLimits flat → ArePast flat cluster start old p
    → p.counts ≡ p.info.counts
    → StandsAtHead (cluster_net model flat cluster start) old p reads f y
    → (e : ℕ) → e < length flat.tables.edges
    → length (slice_index_or y.lists e []) ≡ held_at_head flat.tables cluster e
