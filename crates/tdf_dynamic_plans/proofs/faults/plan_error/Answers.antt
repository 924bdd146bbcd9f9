use Rattle.tdf_dynamic_plans.specs.Faults.{plan_fault}
use Rattle.tdf_dynamic_plans.proofs.faults.plan_error.Goals as goal

pub returns : goal.returns
returns c = c.refusal.ensures (plan_fault c.args.tables.now c.args.table.now c.args.why) c.plan_fault.ensures
