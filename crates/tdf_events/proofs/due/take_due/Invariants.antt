use Rattle.std.proofs.Common.{is_some}
use Rattle.std.specs.List.{count_by}
use Rattle.tdf_events.specs.machine.Due.{HaveCome}
use Rattle.tdf_events.proofs.due.take_due.Given as goal

abbrev pub invariant-loop-event : goal.invariant-loop-event
invariant-loop-event l = HaveCome l.lists l.time l.initial.calendar l.calendar l.initial.set.flags l.set.flags

abbrev pub decreases-loop-event : goal.decreases-loop-event
decreases-loop-event l = count_by is_some l.calendar
