-- The samples of the signal of a port that a cluster has done, by the history and as firings trace
-- them.
-- Source: own.
use Rattle.std.specs.List.{filter_map, list_any}
use Rattle.std.specs.Prelude.{◌≡◌, ◌<◌, ◌≤◌, ◌+◌, ◌++◌, ℕ, true, if◌then◌else◌, nat_eq, List, Option, Some, None, length, slice_get, slice_index}
use Rattle.tdf_convert.specs.declared.outputs.Traced.{Traced}
use Rattle.tdf_dynamic_plans.specs.Attributes.{clusters_of}
use Rattle.tdf_fixed.specs.declared.raw.Raw.{Raw}
use Rattle.tdf_bind.specs.declared.model.Flat.{Flat}
use Rattle.tdf_streams.specs.Grounds.{firings}
use Rattle.tdf_streams.specs.Streams.{known}
use Rattle.tdf_sim_history.specs.Cells.{sample_of, samples_done}
use Rattle.tdf_sim_history.specs.Columns.{ColumnStart}
use Rattle.tdf_sim_history.specs.Instant.{activations, periods_of, run_in}
use Rattle.tdf_sim_history.specs.World.{ClusterAt}
use Rattle.tdf_exec.specs.Below.{is_trace_of}
use Rattle.tdf_sim_refinement.specs.Pass.{RunOf}
use Rattle.tdf_schedule.specs.Plan.{done}
use Rattle.tdf_streams.specs.Cluster.{cluster_net}
use Rattle.tdf_streams.specs.Laws.{HasValue}
use Rattle.tdf_lang_tree.specs.Pure.{PureTree}
use Rattle.tdf_lang_tree.specs.declared.blocks.PortKind.TheVariants.{Out}
use Rattle.tdf_bind_connections.specs.declared.modules.PortRow.{PortRow}

-- the value of a traced sample of this signal
abbrev pub value_if : (signal : ℕ) → Traced → Option Raw
value_if signal t = if nat_eq t.signal signal then Some t.value else None

-- the values of those of this signal, in their order
unfoldable pub signal_samples : (signal : ℕ) → List Traced → List Raw
signal_samples signal traced = filter_map (value_if signal) traced

-- a sample of the signal of a port, as the history knows it
abbrev pub sample_known : PureTree → Flat → (cluster number : ℕ) → PortRow → ColumnStart
    → ClusterAt → ℕ → Option Raw
sample_known model flat cluster number port s c j = sample_of s (periods_of c) port number
    (known (cluster_net model flat cluster c.begun) (run_in c) (firings (periods_of c))) j

-- these are the samples of its signal that are done, in a column with such a start
pub record AreSamplesOf (model : PureTree) (flat : Flat) (cluster number : ℕ) (port : PortRow)
    (s : ColumnStart) (c : ClusterAt) (samples : List Raw) : Type 0 where
  pub many : length samples ≡ samples_done s port c
  pub are : (j : ℕ) (v : Raw) → slice_get samples j ≡ Some v
      → sample_known model flat cluster number port s c j ≡ Some v

-- a port of a module of the cluster, which writes a signal of samples that is traced
pub record IsTracedPort (flat : Flat) (cluster number : ℕ) (port : PortRow) : Type 0 where
  pub there : slice_get flat.tables.ports number ≡ Some port
  pub inside : slice_index (clusters_of flat.tables) port.«module» ≡ cluster
  pub kind_is : port.kind ≡ Out
  pub traced : list_any (is_trace_of port.signal) flat.tables.traces ≡ true

-- each activation of a cluster that is done has a value, and the plan has the counts of the period
-- after those of its firings that were done before the start
pub record IsDoneKnown (model : PureTree) (flat : Flat) (cluster : ℕ) (h : ClusterAt)
    : Type 0 where
  pub values : (m n : ℕ) → n < activations h m
      → HasValue (cluster_net model flat cluster h.begun) (run_in h) m n
  pub within : h.place ≤ length h.entries
  pub counts : (m : ℕ) → slice_index h.now.counts m + done h.entries h.from m
      ≡ done h.entries (length h.entries) m

-- from x to y these were traced: each traced port has the samples of its signal besides those that
-- it had
pub record HaveTraced (model : PureTree) (flat : Flat) (hs gs : List ClusterAt) (x y : RunOf)
    : Type 0 where
  pub new : List Traced
  pub gained : y.outputs.traced ≡ x.outputs.traced ++ new
  pub samples : (n number : ℕ) (port : PortRow) (s : ColumnStart) (h g : ClusterAt)
      → (had : List Raw) → slice_get hs n ≡ Some h → slice_get gs n ≡ Some g
      → IsTracedPort flat (n + 1) number port
      → AreSamplesOf model flat (n + 1) number port s h had
      → AreSamplesOf model flat (n + 1) number port s g (had ++ signal_samples port.signal new)
