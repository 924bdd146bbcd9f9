use Rattle.std.proofs.Common.{Some, subst}
use Rattle.std.proofs.lemmas.Result.{IfOk-weaker}
use Rattle.tdf_trace.proofs.tracked.Tracked.stamp.Goals as goal
use Rattle.tdf_trace.specs.Tracked.{TrackedOf}
use Rattle.tdf_trace.specs.machine.Showing.{TakesCells}

pub returns-clause-took : goal.returns-clause-took
returns-clause-took c = IfOk-weaker c.note_all.result _ _
    (λ u took. subst (λ (v : TrackedOf). TakesCells v.columns v.stamps.time (Some c.args.value) c.args.trace.now.rows c.note_all.new.trace.rows) c.self.view_is
    (subst (λ n. TakesCells c.self.inside.columns.items n (Some c.args.value) c.args.trace.now.rows c.note_all.new.trace.rows) c.next-time.ensures.result took))
    c.note_all.ensures.took
