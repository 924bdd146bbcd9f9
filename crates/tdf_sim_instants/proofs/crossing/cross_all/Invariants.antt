use Rattle.std.proofs.Common.{◌≡◌}
use Rattle.tdf_sim_instants.proofs.crossing.cross_all.Given as goal
use Rattle.tdf_sim_instants.specs.Crossing.{HaveCrossed, NoneChanges, crossing_of}

abbrev pub invariant-loop-n : goal.invariant-loop-n
invariant-loop-n l = record {
  crossed : HaveCrossed l.flat l.time l.n (crossing_of l.initial.clusters.items l.initial.since.items l.initial.left l.initial.planned.items)
      (crossing_of l.clusters.items l.since.items l.left l.planned.items);
  unplanned : NoneChanges l.flat l.initial.clusters.items → l.planned.items ≡ l.initial.planned.items;
}
