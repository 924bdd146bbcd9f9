use Rattle.std.proofs.Common.{◌≡◌}
use Rattle.tdf_sim_shown.proofs.resumed.resume_all.Given as goal
use Rattle.tdf_sim_shown.specs.machine.Resuming.{HaveTaken}
use Rattle.tdf_sim_traces.specs.Periods.{clock_of}

abbrev pub invariant-loop-column : goal.invariant-loop-column
invariant-loop-column l = HaveTaken l.flat (clock_of l.clock) l.states l.rows l.column l.initial.tracking.list l.tracking.list × (l.tracking.width ≡ l.initial.tracking.width)
