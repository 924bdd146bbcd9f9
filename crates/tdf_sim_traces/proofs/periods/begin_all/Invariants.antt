use Rattle.tdf_sim_traces.proofs.periods.begin_all.Given as goal
use Rattle.tdf_sim_traces.specs.Periods.{clock_of}
use Rattle.tdf_sim_traces.specs.machine.Beginning.{IsBeginning}

abbrev pub invariant-loop-k : goal.invariant-loop-k
invariant-loop-k l = IsBeginning l.flat.tables (clock_of l.clock) l.signals l.k l.initial.tracking l.tracking l.initial.trace l.trace
