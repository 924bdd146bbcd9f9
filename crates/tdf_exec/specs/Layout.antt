-- What the actors of a model need at a start, laid out for all clusters.
-- Source: own.
use Rattle.std.specs.Prelude.{◌≡◌, ◌≢◌, ℕ, List, Some, length, map, slice_get, slice_index}
use Rattle.tdf_bind.specs.declared.model.Flat.{Flat}
use Rattle.tdf_bind_tables.specs.declared.actors.ActorRow.{ActorRow}
use Rattle.tdf_cluster_plans.specs.Groups.{AreTableGroups, TableGroupsOf}
use Rattle.tdf_dynamic_plans.specs.Attributes.{clusters_of}
use Rattle.tdf_exec.specs.Traced.{unrated_port}
use Rattle.tdf_exec.specs.declared.runners.TracedPort.{TracedPort}
use Rattle.tdf_exec_layout.specs.Traced.{traced_ports}
use Rattle.tdf_exec_layout.specs.Wires.{IsWiringOf}
use Rattle.tdf_exec_layout.specs.declared.wiring.ActorWires.{ActorWires}

pub record LayoutOf : Type 0 where
  -- what each actor is told of its edges
  pub wires : List ActorWires
  -- the ports of each module whose signals are traced
  pub traced : List (List TracedPort)
  -- the numbers of the things of each cluster
  pub groups : TableGroupsOf

-- what the actors of a cluster need is still there
pub record HasLayoutOf (flat : Flat) (cluster : ℕ) (layout : LayoutOf) : Type 0 where
  pub actors : length layout.wires ≡ length flat.tables.actors
  pub modules : length layout.traced ≡ length flat.tables.modules
  pub wires : (m : ℕ) (row : ActorRow) (w : ActorWires) → slice_get flat.tables.actors m ≡ Some row
      → slice_get layout.wires m ≡ Some w → row.cluster ≡ cluster
      → IsWiringOf flat.tables m row.kind w
  pub traced : (m : ℕ) (list : List TracedPort) → slice_get layout.traced m ≡ Some list
      → slice_index (clusters_of flat.tables) m ≡ cluster
      → list ≡ map (unrated_port flat.tables) (traced_ports flat.tables m)
  pub groups : AreTableGroups flat.tables layout.groups

-- what a cluster took was its own
abbrev pub KeepsLayouts : Flat → (cluster : ℕ) → (old new : LayoutOf) → Type 0
KeepsLayouts flat cluster old new =
    (other : ℕ) → other ≢ cluster → HasLayoutOf flat other old → HasLayoutOf flat other new
