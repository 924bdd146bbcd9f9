-- What an instant does to what a trace shows.
-- Source: own.
use Rattle.std.specs.Prelude.{◌≡◌, ◌+◌, ◌++◌, ℕ, true, false, List, Some, length, slice_get}
use Rattle.tdf_convert.specs.declared.outputs.Traced.{Traced}
use Rattle.tdf_events.specs.Side.{SideOf}
use Rattle.tdf_fixed.specs.declared.raw.Raw.{Raw}
use Rattle.tdf_bind.specs.declared.model.Flat.{Flat}
use Rattle.tdf_sim_history.specs.Instant.{is_over, periods_of}
use Rattle.tdf_sim_history.specs.Columns.{ColumnStart}
use Rattle.tdf_sim_history.specs.World.{ClusterAt, World}
use Rattle.tdf_sim_refinement.specs.Samples.{AreSamplesOf, IsTracedPort, signal_samples}
use Rattle.tdf_lang_tree.specs.Pure.{PureTree}
use Rattle.tdf_bind_connections.specs.declared.modules.PortRow.{PortRow}

-- a cluster before and after an instant: the period that was over made way for the next one, of
-- whatever rates and steps, or it goes on
pub data Advances (time : ℕ) (h g : ClusterAt) : Type 0 where
  Began : is_over time h ≡ true → g.origin ≡ h.origin → g.since ≡ time → g.old ≡ periods_of h
      → Advances time h g
  Stayed : is_over time h ≡ false → g.origin ≡ h.origin → g.since ≡ h.since → g.old ≡ h.old
      → g.now ≡ h.now → Advances time h g

-- an instant led from one world to another, and traced these samples
pub record HasAdvanced (model : PureTree) (flat : Flat) (time : ℕ) (w v : World SideOf)
    (traced : List Traced) : Type 0 where
  pub same : length v.clusters ≡ length w.clusters
  pub clusters : (n : ℕ) (h g : ClusterAt) → slice_get w.clusters n ≡ Some h
      → slice_get v.clusters n ≡ Some g → Advances time h g
  pub samples : (n number : ℕ) (port : PortRow) (s : ColumnStart) (h g : ClusterAt)
      → (had : List Raw) → slice_get w.clusters n ≡ Some h → slice_get v.clusters n ≡ Some g
      → IsTracedPort flat (n + 1) number port
      → AreSamplesOf model flat (n + 1) number port s h had
      → AreSamplesOf model flat (n + 1) number port s g (had ++ signal_samples port.signal traced)
