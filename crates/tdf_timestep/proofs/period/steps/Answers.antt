use Rattle.tdf_timestep.proofs.Answered.{disagree, too_long, inexact_both, steps_always}
use Rattle.tdf_timestep.proofs.period.steps.Goals as goal

pub returns-clause-disagree : goal.returns-clause-disagree
returns-clause-disagree c = disagree c.args.net.now.ports.items c.args.counts.now c.args.assigned.now c.answer.result c.answer.ensures

pub returns-clause-too_long : goal.returns-clause-too_long
returns-clause-too_long c = too_long c.args.net.now.ports.items c.args.counts.now c.args.assigned.now c.answer.result c.answer.ensures

pub returns-clause-inexact : goal.returns-clause-inexact
returns-clause-inexact c = inexact_both c.args.net.now.ports.items c.args.counts.now c.args.assigned.now c.answer.result c.answer.ensures

pub returns-clause-steps_always : goal.returns-clause-steps_always
returns-clause-steps_always c = steps_always c.args.net.now.ports.items c.args.counts.now c.args.assigned.now c.answer.result c.answer.ensures
