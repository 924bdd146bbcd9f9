use Rattle.tdf_schedule.specs.views.Bounds.{AreRaisedUpTo}
use Rattle.tdf_schedule.proofs.bounds.raise.Given as goal

abbrev pub invariant-loop-j : goal.invariant-loop-j
invariant-loop-j l = AreRaisedUpTo l.j l.list l.edges l.done l.initial.bounds.items l.bounds.items
