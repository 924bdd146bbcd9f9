use Rattle.std.proofs.Common.{rules, arith, ◌≡◌, [], ◌∷◌, ◌++◌, ap, length}
use Rattle.std.proofs.lemmas.Result.{IfOk-weaker}
use Rattle.tdf_trace.proofs.Singles.{caught_up, period_begun}
use Rattle.tdf_trace.proofs.tracked.Tracked.begin.Goals as goal
use Rattle.tdf_trace.specs.Tracked.{TrackedOf}
use Rattle.tdf_trace_rows.specs.Positions.{span_of}

pub returns-clause-took : goal.returns-clause-took
returns-clause-took c = IfOk-weaker c.catch_up.result _ _
    (λ u took spans samples cells chained h. took (spans ++ span_of c.args.start c.args.step c.args.count ∷ []) samples h.tracked.done cells
    (period_begun spans samples cells c.args.start c.args.step c.args.count c.args.self.now _ c.args.trace.now.rows c.requires.none
    (ap (λ (v : TrackedOf). v.columns) c.self.view_is) (ap (λ (v : TrackedOf). v.waiting) c.self.view_is) c.begin.ensures.fields chained h))
    c.catch_up.ensures.took

pub returns-then-is_empty-clause-took : goal.returns-then-is_empty-clause-took
returns-then-is_empty-clause-took c spans samples cells chained h =
    let none : length c.self.inside.waiting.items ≡ 0 = search rules in
    caught_up (spans ++ span_of c.args.start c.args.step c.args.count ∷ []) samples h.tracked.done cells _ c.args.trace.now.rows (λ some. absurd (omega (arith, some, none)))
    (period_begun spans samples cells c.args.start c.args.step c.args.count c.args.self.now _ c.args.trace.now.rows c.requires.none
    (ap (λ (v : TrackedOf). v.columns) c.self.view_is) (ap (λ (v : TrackedOf). v.waiting) c.self.view_is) c.begin.ensures.fields chained h)
