use Rattle.tdf_sim_traces.proofs.signals.traced_signals.Given as goal
use Rattle.tdf_sim_traces.specs.machine.Pushing.{AreSignalsTo}

abbrev pub invariant-loop-column : goal.invariant-loop-column
invariant-loop-column l = AreSignalsTo l.flat l.column l.list.items
