use Rattle.std.proofs.Common.{length}
use Rattle.tdf_schedule.specs.views.Bounds.{AreWalkedUpTo}
use Rattle.tdf_schedule.proofs.bounds.walk.Given as goal

abbrev pub invariant-loop-i : goal.invariant-loop-i
invariant-loop-i l = AreWalkedUpTo l.i (length l.initial.done.items) l.entries l.edges l.done.items l.bounds.items
