-- What holds of clusters in progress.
-- Source: own.
use Rattle.std.specs.Prelude.{◌≡◌, ℕ, ◌+◌, ◌*◌, ◌≤◌, [], length, slice_index, sum_by}
use Rattle.tdf_expr_blocks.specs.Types.{type_faults}
use Rattle.tdf_dynamic_plans.specs.Rates.{net_of}
use Rattle.tdf_exec.specs.Cluster.{ClusterOf}
use Rattle.tdf_exec.specs.Made.{IsClusterOf, IsClusterPlanned, IsClusterSafe, KeepRates}
use Rattle.tdf_exec.specs.Saved.{edges_with_room, own_edges}
use Rattle.tdf_exec.specs.Starts.{BeginWithRates}
use Rattle.tdf_exec.specs.Telling.{GivesTooMany}
use Rattle.tdf_expr.specs.Checked.{IsCheckedOf}
use Rattle.tdf_bind.specs.Flat.{IsFlatOf}
use Rattle.tdf_bind.specs.declared.model.Flat.{Flat}
use Rattle.tdf_bind_invariants.specs.Limits.{AreWithinLimits}
use Rattle.tdf_rings.specs.Carried.{ring_at}
use Rattle.tdf_rings.specs.Rings.{RingOf}
use Rattle.tdf_schedule.specs.Plan.{done}
use Rattle.tdf_streams.specs.Periods.{AreAttributes, read_rates, write_rates}
use Rattle.tdf_streams.specs.Places.{reader_at, writer_at}
use Rattle.tdf_streams.specs.Starts.{held_at_head}
use Rattle.tdf_lang_tree.specs.Pure.{PureTree}

-- along the plan of its table a cluster is safe, whatever it holds
abbrev pub PlansAreSafe : Type 0
PlansAreSafe = (flat : Flat) (c : ClusterOf) → AreWithinLimits flat
    → AreAttributes flat c.number c.table → IsClusterPlanned flat.tables c
    → c.reads ≡ read_rates (net_of flat.tables c.table)
    → c.writes ≡ write_rates (net_of flat.tables c.table) → IsClusterSafe flat.tables c

-- before the first entry an edge holds what it is to hold at the head of a period
abbrev pub HeadsHold : Type 0
HeadsHold = (flat : Flat) (c : ClusterOf) (e : ℕ) → c.place ≡ 0
    → length (ring_at c.rings e).samples ≡ held_at_head flat.tables c.number e
    → length (ring_at c.rings e).samples
    + done c.entries c.place (reader_at flat.tables.edges e) * slice_index c.reads e
    ≡ held_at_head flat.tables c.number e
    + done c.entries c.place (writer_at flat.tables.edges e) * slice_index c.writes e

-- how many samples the edges of a cluster hold together
abbrev pub samples_held : ClusterOf → ℕ
samples_held c = sum_by (λ (r : RingOf). length r.samples) c.rings

-- they are never more than the buffers of a cluster may have: the limit beyond which there is no
-- plan, `most_samples` of `tdf_base`
abbrev pub ClustersHoldFew : Type 0
ClustersHoldFew = (model : PureTree) (flat : Flat) (c : ClusterOf) → IsFlatOf model flat
    → AreWithinLimits flat → IsClusterOf flat c → samples_held c ≤ 1048576

-- the edges that the plan of a cluster gives room are its own
abbrev pub RoomIsForOwn : Type 0
RoomIsForOwn = (flat : Flat) (c : ClusterOf) → AreWithinLimits flat → IsClusterOf flat c
    → edges_with_room c.bounds (length c.rings) ≡ own_edges flat.tables c.number

-- no offset of the plan of a cluster gives 2 ^ 32 samples of sinks or more, nor of traced signals
abbrev pub RoomIsThere : Type 0
RoomIsThere = (flat : Flat) (c : ClusterOf) → IsClusterOf flat c
    → GivesTooMany c.runners c.entries → ⊥

-- where a model has no fault of types, no processing or reinitialize body sets a rate variable
abbrev pub RatesAreKept : Type 0
RatesAreKept = (model : PureTree) (flat : Flat) → type_faults model ≡ []
    → IsCheckedOf model flat.checked → KeepRates flat.checked

-- nor does an initialize body
abbrev pub RatesAreBegun : Type 0
RatesAreBegun = (model : PureTree) (flat : Flat) → type_faults model ≡ []
    → IsCheckedOf model flat.checked → BeginWithRates flat.checked
