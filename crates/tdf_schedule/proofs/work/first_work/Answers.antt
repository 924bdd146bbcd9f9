use Rattle.std.proofs.Common.{◌+◌, subst, sym}
use Rattle.tdf_schedule.proofs.Works.{started_none, started_more, started_still}
use Rattle.tdf_schedule.specs.declared.work.Worklist.{Worklist}
use Rattle.tdf_schedule.specs.views.Work.{IsStarted}
use Rattle.tdf_schedule.proofs.work.first_work.Goals as goal
use Rattle.tdf_schedule.proofs.work.first_work.Goals.{then-counts-actor-ne0+in_ok-push_one, else-counts-actor-ne0}

pub loop-actor-init : goal.loop-actor-init
loop-actor-init c = started_none c.args.counts.now _ _ c.in_ok-work.ensures.stack c.in_ok-work.ensures.on

pub loop-actor-preserved : goal.loop-actor-preserved
loop-actor-preserved c =
    let counts = c.args.counts.now in
    let before = c.loop-actor.work in
    elim c.if-counts-actor-ne0.branch [
      | then-counts-actor-ne0+in_ok-push_one w ↦ subst (λ (x : Worklist). IsStarted (c.loop-actor.actor + 1) c.args.counts.now x.stack.items x.on.items) (sym w.work-is)
          (started_more c.loop-actor.actor counts before.stack.items _ before.on.items _ c.loop-actor.invariant w.in_ok-push_one.ensures)
      | else-counts-actor-ne0 w ↦ subst (λ (x : Worklist). IsStarted (c.loop-actor.actor + 1) c.args.counts.now x.stack.items x.on.items) (sym w.work-is)
          (started_still c.loop-actor.actor counts before.stack.items before.on.items w.if-counts-actor-ne0.false c.loop-actor.invariant)
    ]
