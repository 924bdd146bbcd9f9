use Rattle.tdf_sim_traces.specs.Periods.{clock_of}
use Rattle.tdf_sim_shown.proofs.windows.windows_of.Given as goal
use Rattle.tdf_sim_shown.specs.machine.Windows.{AreWindowsTo}

abbrev pub invariant-loop-column : goal.invariant-loop-column
invariant-loop-column l = AreWindowsTo l.flat (clock_of l.clock) l.column l.windows.items
