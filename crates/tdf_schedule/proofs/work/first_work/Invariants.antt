use Rattle.tdf_schedule.specs.views.Work.{IsStarted}
use Rattle.tdf_schedule.proofs.work.first_work.Given as goal

abbrev pub invariant-loop-actor : goal.invariant-loop-actor
invariant-loop-actor l = IsStarted l.actor l.counts l.work.stack.items l.work.on.items
