use Rattle.tdf_sim_traces.proofs.events.settle_all.Given as goal
use Rattle.tdf_sim_traces.specs.machine.Noting.{HaveShown}

abbrev pub invariant-loop-k : goal.invariant-loop-k
invariant-loop-k l = HaveShown l.values l.k l.initial.events.items l.events.items
