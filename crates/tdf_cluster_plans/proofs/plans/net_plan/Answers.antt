use Rattle.tdf_dynamic_plans.proofs.Api.{all_from_plan, from_timing, made_planned, modules_few}
use Rattle.tdf_dynamic_plans.specs.Rates.{net_of}
use Rattle.std.proofs.Common.{refl}
use Rattle.tdf_cluster_plans.proofs.plans.net_plan.Goals as goal

pub cluster_timing-requires-clause-modules : goal.cluster_timing-requires-clause-modules
cluster_timing-requires-clause-modules c = modules_few c.args.tables.now c.requires.wired

pub returns-in-Ok-clause-planned : goal.returns-in-Ok-clause-planned
returns-in-Ok-clause-planned c = made_planned c.args.tables.now c.args.cluster c.args.table.now (net_of c.args.tables.now c.args.table.now) c.in-Ok.timing.counts.items c.in-Ok.timing.steps c.args.known.now c.make_plan.new.known c.make_plan.result
    refl c.in-Ok.ensures.timing c.requires.unknown c.make_plan.ensures.plan c.make_plan.ensures.kept c.make_plan.ensures.made c.make_plan.ensures.most

pub returns-in-Ok-clause-refused : goal.returns-in-Ok-clause-refused
returns-in-Ok-clause-refused c = all_from_plan c.args.tables.now (net_of c.args.tables.now c.args.table.now) c.args.cluster c.args.table.now c.in-Ok.timing.counts.items c.in-Ok.timing.steps c.make_plan.result c.in-Ok.ensures.timing c.make_plan.ensures.refused

pub returns-in-Err-clause-refused : goal.returns-in-Err-clause-refused
returns-in-Err-clause-refused c = from_timing c.args.tables.now (net_of c.args.tables.now c.args.table.now) c.args.cluster c.args.table.now c.in-Err.refused c.in-Err.ensures.refused
