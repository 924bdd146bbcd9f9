use Rattle.tdf_schedule.specs.views.Work.{ArePushed, readers_in}
use Rattle.tdf_schedule.proofs.work.push_readers.Given as goal

abbrev pub invariant-loop-i : goal.invariant-loop-i
invariant-loop-i l = ArePushed (readers_in l.edges l.list) l.i l.initial.work.stack.items l.work.stack.items l.initial.work.on.items l.work.on.items
