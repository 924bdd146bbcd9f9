use Rattle.std.proofs.Common.{◌<◌, subst, sym}
use Rattle.tdf_schedule.proofs.Pushes.{pushed_more, reader_at, readers_long}
use Rattle.tdf_schedule.specs.views.Work.{readers_in}
use Rattle.tdf_schedule.proofs.work.push_readers.Goals as goal

pub loop-i-preserved : goal.loop-i-preserved
loop-i-preserved c = pushed_more (readers_in c.args.edges.now c.args.list.now) c.loop-i.i _ c.args.work.now.stack.items c.loop-i.work.stack.items c.push_one.new.work.stack.items c.args.work.now.on.items c.loop-i.work.on.items c.push_one.new.work.on.items
    (subst (λ n. c.loop-i.i < n) (sym (readers_long c.args.edges.now c.args.list.now)) c.loop-i-test.true)
    (reader_at c.args.edges.now c.args.list.now c.loop-i.i _ c.loop-i-test.true (c.requires.inside c.loop-i.i c.loop-i-test.true)) c.loop-i.invariant c.in_ok-push_one.ensures
