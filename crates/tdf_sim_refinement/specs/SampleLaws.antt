-- What holds of the samples that firings trace.
-- Source: own.
use Rattle.std.specs.Prelude.{◌≡◌, ℕ, ℤ, false, List, [], Some, length, slice_get}
use Rattle.tdf_convert.specs.declared.outputs.Sent.{Sent}
use Rattle.tdf_dynamic_plans.specs.Attributes.{AttrsOf}
use Rattle.tdf_exec.specs.Below.{First, IsBoundary}
use Rattle.tdf_exec.specs.Cluster.{ClusterOf}
use Rattle.tdf_exec.specs.Played.{play_of}
use Rattle.tdf_expr.specs.Checked.{IsCheckedOf}
use Rattle.tdf_fixed.specs.declared.raw.Raw.{Raw}
use Rattle.tdf_bind.specs.Flat.{IsFlatOf}
use Rattle.tdf_bind.specs.declared.model.Flat.{Flat}
use Rattle.tdf_bind_invariants.specs.Formats.{IsSoundModel}
use Rattle.tdf_sim_history.specs.Answers.{IsAnswer, asks_in, last_cells}
use Rattle.tdf_sim_history.specs.Cells.{column_spans, port_cell}
use Rattle.tdf_sim_history.specs.Columns.{ColumnStart, held_by}
use Rattle.tdf_sim_history.specs.Instant.{periods_of, with_new, with_same}
use Rattle.tdf_sim_history.specs.Start.{first_cluster}
use Rattle.tdf_sim_history.specs.World.{Change, ClusterAt, Rules, World}
use Rattle.tdf_bind_invariants.specs.Limits.{AreWithinLimits}
use Rattle.tdf_trace_rows.specs.Positions.{cell_of}
use Rattle.tdf_sim_refinement.specs.At.{IsAt}
use Rattle.tdf_sim_refinement.specs.Boundary.{HasAnswered}
use Rattle.tdf_sim_refinement.specs.Firings.{settled_values}
use Rattle.tdf_sim_refinement.specs.Pass.{AreAt, AreReady, HavePassed, PassAt, PassesAlong, RunOf}
use Rattle.tdf_schedule.specs.declared.entry.Entry.{Entry}
use Rattle.tdf_streams.specs.Cluster.{is_outside_cluster}
use Rattle.tdf_sim_refinement.specs.Samples.{AreSamplesOf, HaveTraced, IsDoneKnown}
use Rattle.tdf_lang_tree.specs.Pure.{PureTree}
use Rattle.tdf_bind_connections.specs.declared.modules.PortRow.{PortRow}

-- at the start a column has the samples that its start holds
abbrev pub StartsHaveSamples : Type 0
StartsHaveSamples = (model : PureTree) (flat : Flat) (cluster number : ℕ) (port : PortRow)
    → (s : ColumnStart) (first : First)
    → AreSamplesOf model flat cluster number port s (first_cluster model flat cluster first [])
    (held_by s)

-- a boundary adds none, where the plan stays and where there is a new one
pub record BoundariesAddNone : Type 0 where
  pub same : (model : PureTree) (flat : Flat) (cluster number time : ℕ) (port : PortRow)
      → (s : ColumnStart) (h : ClusterAt) (c : ClusterOf) (samples : List Raw)
      → (table : List AttrsOf) → IsAt model flat cluster h c → h.place ≡ length h.entries
      → AreSamplesOf model flat cluster number port s h samples
      → AreSamplesOf model flat cluster number port s (with_same time table h) samples
  pub new : (model : PureTree) (flat : Flat) (cluster number time : ℕ) (port : PortRow)
      → (s : ColumnStart) (h : ClusterAt) (c : ClusterOf) (samples : List Raw)
      → (table : List AttrsOf) (counts : List ℕ) (period : ℕ) (entries : List Entry)
      → (bounds : List ℕ) → IsAt model flat cluster h c → h.place ≡ length h.entries
      → AreSamplesOf model flat cluster number port s h samples
      → AreSamplesOf model flat cluster number port s
      (with_new flat.tables time table counts period entries bounds h) samples

-- the cells of the history are those that these samples give
abbrev pub CellsAreOfSamples : Type 0
CellsAreOfSamples = (model : PureTree) (flat : Flat) (cluster number time : ℕ) (port : PortRow)
    → (s : ColumnStart) (c : ClusterAt) (samples : List Raw)
    → AreSamplesOf model flat cluster number port s c samples
    → port_cell model flat cluster s port number time (Some c)
    ≡ cell_of (column_spans port s c.origin (periods_of c)) samples time

-- what is done is known, where a cluster in progress is what the history says of it
abbrev pub DoneIsKnown : Type 0
DoneIsKnown = (model : PureTree) (flat : Flat) (cluster : ℕ) (h : ClusterAt) (c : ClusterOf)
    → IsAt model flat cluster h c → IsDoneKnown model flat cluster h

-- so is what each module holds when the period is done, from which its change body begins
abbrev pub HeldIsKnown : Type 0
HeldIsKnown = (model : PureTree) (flat : Flat) (cluster : ℕ) (h : ClusterAt) (c : ClusterOf)
    → (m : ℕ) (cells : List ℤ) → IsAt model flat cluster h c → h.place ≡ length h.entries
    → slice_get (play_of h.from c).states m ≡ Some cells
    → is_outside_cluster flat.tables cluster m ≡ false
    → last_cells model flat cluster h m ≡ Some cells

-- a change is the answer of the boundary of a cluster, and the boundary leads to a table of the
-- cluster
pub record HasAnswer (model : PureTree) (flat : Flat) (number : ℕ) (h : ClusterAt)
    (change : Change) : Type 0 where
  pub answer : IsAnswer model flat number h change
  pub boundary : IsBoundary flat number (asks_in model flat number h) h.now.info.table

-- where the period of a cluster is done and what its modules ask for leads to a change, that is the
-- answer of its boundary, and it leads to a table of the cluster
abbrev pub AnswersAreTold : Type 0
AnswersAreTold = (model : PureTree) (flat : Flat) (number : ℕ) (h : ClusterAt) (c : ClusterOf)
    → (change : Change) → IsCheckedOf model flat.checked → AreWithinLimits flat
    → IsAt model flat number h c → HasAnswered flat c change
    → HasAnswer model flat number h change

-- what clusters in progress trace in a pass are the samples that the history has then
abbrev pub PassesTrace : Type 0
PassesTrace = (model : PureTree) (flat : Flat) (rules : Rules ℕ) (pass : PassAt) (n : ℕ)
    → (w : World ℕ) (x y : RunOf) (sent : List Sent) → IsSoundModel model
    → IsCheckedOf model flat.checked → IsFlatOf model flat → AreWithinLimits flat
    → AreAt model flat pass.since w.clusters x.clusters → w.left ≡ x.left
    → AreReady flat.tables pass (settled_values rules w) x.clusters
    → HavePassed flat pass n x y sent → (along : PassesAlong model flat rules pass n w y sent)
    → HaveTraced model flat w.clusters along.clusters x y
