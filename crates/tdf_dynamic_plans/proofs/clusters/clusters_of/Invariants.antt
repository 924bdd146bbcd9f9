use Rattle.std.proofs.Common.{◌≡◌, length, map, take}
use Rattle.tdf_bind_tables.specs.Actors.{cluster_of}
use Rattle.tdf_dynamic_plans.proofs.clusters.clusters_of.Given as goal

abbrev pub invariant-loop-i : goal.invariant-loop-i
invariant-loop-i l = record {
  long : length l.numbers.items ≡ length l.tables.actors;
  done : take l.i l.numbers.items ≡ map cluster_of (take l.i l.tables.actors);
}
