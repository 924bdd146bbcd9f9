use Rattle.std.proofs.Common.{◌≡◌, ◌<◌, ◌≤◌, [], ◌∷◌, ◌++◌, refl, sym, subst, arith}
use Rattle.std.proofs.lemmas.Result.{IfOk-weaker}
use Rattle.tdf_trace.proofs.Singles.{takes_later, takes_now}
use Rattle.tdf_trace.proofs.tracked.Tracked.give.Goals as goal
use Rattle.tdf_trace.specs.Tracked.{TrackedOf}
use Rattle.tdf_trace.specs.machine.Showing.{OneHolds}

pub returns-then-self-gt0-clause-took : goal.returns-then-self-gt0-clause-took
returns-then-self-gt0-clause-took c = IfOk-weaker c.stamp.result _ _
    (λ u took spans samples cells h.
    let more : 0 < c.args.self.now.stamps.left = subst (λ (v : TrackedOf). 0 < v.stamps.left) c.self.view_is c.if-self-gt0.true in
    subst (λ (v : TrackedOf). OneHolds spans (samples ++ c.args.value ∷ []) cells v c.stamp.new.trace.rows) (sym c.stamp.ensures.on)
    (takes_now spans samples cells c.args.value c.args.self.now c.args.trace.now.rows c.stamp.new.trace.rows more took h))
    c.stamp.ensures.took

pub returns-clause-took : goal.returns-clause-took
returns-clause-took c = λ spans samples cells h.
    let past : c.self.inside.stamps.left ≤ 0 = c.if-self-gt0.false in
    let none : c.self.inside.stamps.left ≡ 0 = omega (arith, past) in
    takes_later spans samples cells c.args.value _ _ c.args.trace.now.rows none refl refl c.in_ok-push_back.ensures.items
    (subst (λ (v : TrackedOf). OneHolds spans samples cells v c.args.trace.now.rows) (sym c.self.view_is) h)
