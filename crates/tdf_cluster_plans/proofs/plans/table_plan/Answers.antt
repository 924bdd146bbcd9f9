use Rattle.tdf_dynamic_plans.proofs.Api.{all_planned, known_planned, planned_is}
use Rattle.tdf_cluster_plans.proofs.plans.table_plan.Goals as goal

pub returns-in_ok-plan-in-Some-clause-planned : goal.returns-in_ok-plan-in-Some-clause-planned
returns-in_ok-plan-in-Some-clause-planned c = known_planned c.args.tables.now c.args.cluster c.args.table.now c.args.known.now c.in-Some.place c.in-Some.ensures.known c.requires.known c.requires.table
    c.in_ok-plan-in-Some.field-0 (c.in_ok-plan-in-Some.ensures c.in-Some.ensures.known.0 c.in-Some.ensures.known.1)

pub returns-in_ok-plan-in-Some-clause-plan : goal.returns-in_ok-plan-in-Some-clause-plan
returns-in_ok-plan-in-Some-clause-plan c = planned_is c.args.tables.now c.args.cluster c.args.table.now c.in_ok-plan-in-Some.field-0 c.args.known.now c.args.known.now
    (known_planned c.args.tables.now c.args.cluster c.args.table.now c.args.known.now c.in-Some.place c.in-Some.ensures.known c.requires.known c.requires.table
    c.in_ok-plan-in-Some.field-0 (c.in_ok-plan-in-Some.ensures c.in-Some.ensures.known.0 c.in-Some.ensures.known.1))

pub returns-in-None-clause-plan : goal.returns-in-None-clause-plan
returns-in-None-clause-plan c = all_planned c.args.tables.now c.args.cluster c.args.table.now c.args.known.now c.new_plan.new.known c.new_plan.result c.new_plan.ensures.planned
