use Rattle.std.proofs.Common.{◌≡◌, length}
use Rattle.tdf_sim.specs.machine.Steps.{HavePlans}
use Rattle.tdf_sim.proofs.sim.plans_of.Given as goal

abbrev pub invariant-loop-made : goal.invariant-loop-made
invariant-loop-made l = record {
  count : length l.firsts.items ≡ l.made;
  plans : HavePlans l.flat l.firsts.items;
}
