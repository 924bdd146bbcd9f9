use Rattle.tdf_dynamic_plans.specs.Faults.{step_fault}
use Rattle.tdf_dynamic_plans.proofs.faults.step_error.Goals as goal

pub returns : goal.returns
returns c = c.refusal.ensures (step_fault c.args.tables.now c.args.table.now c.args.why) c.step_fault.ensures
