use Rattle.std.proofs.Common.{map}
use Rattle.tdf_cluster_plans.specs.machine.Setting.{AreSet}
use Rattle.tdf_dynamic_plans.specs.Rates.{net_of}
use Rattle.tdf_graph.specs.declared.actors.Edge.{Edge}
use Rattle.tdf_cluster_plans.proofs.own_rates.set_own_rates.Given as goal

abbrev pub invariant-loop-i : goal.invariant-loop-i
invariant-loop-i l = record {
  reads : AreSet (map (λ (edge : Edge). edge.read_rate) (net_of l.tables l.table).edges) l.numbers l.i l.reads.items;
  writes : AreSet (map (λ (edge : Edge). edge.write_rate) (net_of l.tables l.table).edges) l.numbers l.i l.writes.items;
}
