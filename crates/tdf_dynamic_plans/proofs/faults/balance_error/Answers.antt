use Rattle.tdf_dynamic_plans.specs.Faults.{balance_fault}
use Rattle.tdf_dynamic_plans.proofs.faults.balance_error.Goals as goal

pub returns : goal.returns
returns c = c.refusal.ensures (balance_fault c.args.tables.now c.args.table.now c.args.why) c.balance_fault.ensures
