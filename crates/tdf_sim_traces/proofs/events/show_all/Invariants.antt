use Rattle.tdf_sim_traces.proofs.events.show_all.Given as goal
use Rattle.tdf_sim_traces.specs.machine.Noting.{IsShowing}

abbrev pub invariant-loop-k : goal.invariant-loop-k
invariant-loop-k l = IsShowing l.values l.time l.k l.initial.events.items l.events.items l.initial.trace l.trace
