use Rattle.tdf_events.proofs.Dues.{all_come, all_gone, come_more}
use Rattle.tdf_events.proofs.due.take_due.Goals as goal

pub loop-event-preserved : goal.loop-event-preserved
loop-event-preserved c = come_more c.args.lists.now c.args.time c.in-Some.event c.args.calendar.now c.loop-event.calendar c.cancel.new.self c.args.set.now.flags c.loop-event.set.flags c.trigger.new.set.flags c.loop-event.invariant c.in-Some.ensures c.cancel.ensures c.trigger.ensures

pub returns-clause-times : goal.returns-clause-times
returns-clause-times c = all_gone c.args.lists.now c.args.time c.args.calendar.now c.loop-event.calendar c.args.set.now.flags c.loop-event.set.flags c.loop-event.invariant c.in_default.ensures

pub returns-clause-reached : goal.returns-clause-reached
returns-clause-reached c = all_come c.args.lists.now c.args.time c.args.calendar.now c.loop-event.calendar c.args.set.now.flags c.loop-event.set.flags c.loop-event.invariant c.in_default.ensures
