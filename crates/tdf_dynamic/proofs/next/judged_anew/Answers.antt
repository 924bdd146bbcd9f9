use Rattle.std.proofs.Common.{refl}
use Rattle.std.proofs.lemmas.Result.{IfOk-weaker}
use Rattle.tdf_dynamic.proofs.Judging.{all_weaker, change_refused, judged_is, plan_refused, refusal_weaker, steps_refused}
use Rattle.tdf_dynamic.specs.machine.Judging.{IsJudged, IsJudgedFault, IsRejection}
use Rattle.tdf_dynamic_plans.specs.Faults.{IsPlanFault, IsPlanOf}
use Rattle.tdf_dynamic_plans.proofs.Api.{made_planned, modules_few}
use Rattle.tdf_dynamic_plans.specs.Rates.{net_of, net_ports}
use Rattle.tdf_dynamic.proofs.next.judged_anew.Goals as goal

pub cluster_timing-requires-clause-modules : goal.cluster_timing-requires-clause-modules
cluster_timing-requires-clause-modules c = modules_few c.args.at.now.flat.now.tables c.requires.wired

pub returns-in-Err-clause-refused : goal.returns-in-Err-clause-refused
returns-in-Err-clause-refused c = steps_refused c.args.at.now.flat.now.tables c.args.at.now.cluster c.args.at.now.table.now c.args.new.now c.args.at.now.frames.now c.in-Err.refused c.in-Err.ensures.refused

pub returns-in-Ok-unrejected-clause-plan : goal.returns-in-Ok-unrejected-clause-plan
returns-in-Ok-unrejected-clause-plan c =
    IfOk-weaker c.make_plan.result (IsPlanOf (net_of c.args.at.now.flat.now.tables c.args.new.now) c.in-Ok.timing.counts.items c.in-Ok.timing.steps) (IsJudged c.args.at.now.flat.now.tables c.args.at.now.cluster c.args.at.now.table.now c.args.new.now c.args.at.now.frames.now)
    (λ plan is. judged_is c.args.at.now.flat.now.tables c.args.at.now.cluster c.args.at.now.table.now c.args.new.now c.args.at.now.frames.now c.in-Ok.timing.counts.items c.in-Ok.timing.steps c.in-Ok.ensures.timing c.in-Ok-unrejected.ensures.none plan is) c.make_plan.ensures.plan

pub returns-in-Ok-unrejected-clause-refused : goal.returns-in-Ok-unrejected-clause-refused
returns-in-Ok-unrejected-clause-refused c =
    all_weaker (IsPlanFault c.args.at.now.flat.now.tables (net_of c.args.at.now.flat.now.tables c.args.new.now) c.args.new.now c.in-Ok.timing.counts.items c.in-Ok.timing.steps) (IsJudgedFault c.args.at.now.flat.now.tables c.args.at.now.cluster c.args.at.now.table.now c.args.new.now c.args.at.now.frames.now)
    (plan_refused c.args.at.now.flat.now.tables c.args.at.now.cluster c.args.at.now.table.now c.args.new.now c.args.at.now.frames.now c.in-Ok.timing.counts.items c.in-Ok.timing.steps c.in-Ok.ensures.timing c.in-Ok-unrejected.ensures.none) c.make_plan.result c.make_plan.ensures.refused

pub returns-in-Ok-unrejected-clause-planned : goal.returns-in-Ok-unrejected-clause-planned
returns-in-Ok-unrejected-clause-planned c = made_planned c.args.at.now.flat.now.tables c.args.at.now.cluster c.args.new.now (net_of c.args.at.now.flat.now.tables c.args.new.now) c.in-Ok.timing.counts.items c.in-Ok.timing.steps c.args.known.now c.make_plan.new.known c.make_plan.result
    refl c.in-Ok.ensures.timing c.requires.unknown c.make_plan.ensures.plan c.make_plan.ensures.kept c.make_plan.ensures.made c.make_plan.ensures.most

pub returns-in-Err-unrejected-clause-refused : goal.returns-in-Err-unrejected-clause-refused
returns-in-Err-unrejected-clause-refused c =
    refusal_weaker (IsRejection c.args.at.now.flat.now.tables c.args.at.now.cluster c.args.at.now.table.now c.args.at.now.frames.now (net_ports c.args.at.now.flat.now.tables c.args.new.now) c.in-Ok.timing.steps) (IsJudgedFault c.args.at.now.flat.now.tables c.args.at.now.cluster c.args.at.now.table.now c.args.new.now c.args.at.now.frames.now)
    (change_refused c.args.at.now.flat.now.tables c.args.at.now.cluster c.args.at.now.table.now c.args.new.now c.args.at.now.frames.now c.in-Ok.timing.counts.items c.in-Ok.timing.steps c.in-Ok.ensures.timing) c.in-Err-unrejected.refused c.in-Err-unrejected.ensures.refused
