use Rattle.tdf_trace.proofs.tracking.Tracking.first_missing.Given as goal
use Rattle.tdf_trace.specs.Missing.{IsFirstMissing}

abbrev pub invariant-loop-i : goal.invariant-loop-i
invariant-loop-i l = IsFirstMissing l.self.list l.i l.limit l.least
