-- The next entry of the plan is fired by what the cluster has for its actor.
use Rattle.std.proofs.Common.{◌≡◌, ◌+◌, ◌<◌, ℕ, Some, length, subst, sym}
use Rattle.std.specs.Prelude.{slice_get}
use Rattle.tdf_bind.specs.declared.model.Flat.{Flat}
use Rattle.tdf_exec.specs.Cluster.{ClusterOf}
use Rattle.tdf_exec.specs.Made.{IsClusterOf, IsRunnerWith}
use Rattle.tdf_exec.specs.declared.runners.Runner.{Runner}
use Rattle.tdf_exec.specs.declared.runners.Runner.TheVariants as runner
use Rattle.tdf_exec.specs.views.Actors.{ActorsOf}
use Rattle.tdf_exec_firing.specs.Edges.{EdgesOf}
use Rattle.tdf_schedule.specs.declared.entry.Entry.{Entry}
use Rattle.tdf_streams.proofs.Api.{get_inside}

-- a cluster with other edges and actors, one entry on
abbrev pub fired_view : ClusterOf → EdgesOf → ActorsOf → ClusterOf
fired_view c edges actors = record c {
  place = c.place + 1;
  reads = edges.reads;
  writes = edges.writes;
  rings = edges.rings;
  runners = actors.runners;
  positions = actors.positions;
}

module _ (flat : Flat) (c : ClusterOf) (of : IsClusterOf flat c) (x : Entry) (at : slice_get c.entries c.place ≡ Some x) where
  pub entry_runner : (r : Runner) × (slice_get c.runners x.actor ≡ Some r)
  entry_runner = get_inside c.runners x.actor (subst (λ n. x.actor < n) (sym of.actors) (of.safe.inside c.place x at))

  -- it is of the cluster
  pub entry_own : (r : Runner) → slice_get c.runners x.actor ≡ Some r → r ≡ runner.Outside → ⊥
  entry_own r there same = subst (IsRunnerWith flat c.table c x.actor) same (of.runners x.actor r there) (of.safe.own c.place x at)
