use Rattle.tdf_dynamic.proofs.Judging.{known_judged, known_refused}
use Rattle.tdf_dynamic_plans.proofs.Api.{known_planned, within}
use Rattle.tdf_dynamic.proofs.next.judged_known.Goals as goal

pub timing-requires : goal.timing-requires
timing-requires c = within c.args.known.now.plans c.args.place c.requires.here.0 c.requires.here.1

pub plan-requires : goal.plan-requires
plan-requires c = within c.args.known.now.plans c.args.place c.requires.here.0 c.requires.here.1

pub returns-in_ok-plan-in-Ok-clause-plan : goal.returns-in_ok-plan-in-Ok-clause-plan
returns-in_ok-plan-in-Ok-clause-plan c = known_judged c.args.at.now.flat.now.tables c.args.at.now.cluster c.args.at.now.table.now c.args.new.now c.args.at.now.frames.now c.args.known.now c.args.place c.requires.here c.requires.known c.requires.new c.timing.result.now.steps (c.timing.ensures c.requires.here.0 c.requires.here.1).1
    c.in-Ok.ensures.none c.in_ok-plan-in-Ok.field-0 (c.in_ok-plan-in-Ok.ensures c.requires.here.0 c.requires.here.1)

pub returns-in_ok-plan-in-Ok-clause-planned : goal.returns-in_ok-plan-in-Ok-clause-planned
returns-in_ok-plan-in-Ok-clause-planned c = known_planned c.args.at.now.flat.now.tables c.args.at.now.cluster c.args.new.now c.args.known.now c.args.place c.requires.here c.requires.known c.requires.new
    c.in_ok-plan-in-Ok.field-0 (c.in_ok-plan-in-Ok.ensures c.requires.here.0 c.requires.here.1)

pub returns-in-Err-clause-refused : goal.returns-in-Err-clause-refused
returns-in-Err-clause-refused c = known_refused c.args.at.now.flat.now.tables c.args.at.now.cluster c.args.at.now.table.now c.args.new.now c.args.at.now.frames.now c.args.known.now c.args.place c.requires.here c.requires.known c.requires.new c.timing.result.now.steps (c.timing.ensures c.requires.here.0 c.requires.here.1).1
    c.in-Err.refused c.in-Err.ensures.refused
