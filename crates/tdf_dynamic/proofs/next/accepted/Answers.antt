use Rattle.tdf_base.specs.declared.codes.Code.TheVariants as code
use Rattle.tdf_dynamic.proofs.Judging.{told_first}
use Rattle.tdf_dynamic.specs.machine.Rows.{IsRefusing}
use Rattle.tdf_dynamic_plans.specs.Rates.{net_ports}
use Rattle.tdf_dynamic.proofs.next.accepted.Goals as goal

pub returns-in-Some-clause-refused : goal.returns-in-Some-clause-refused
returns-in-Some-clause-refused c =
    told_first (IsRefusing (net_ports c.args.at.now.flat.now.tables c.args.at.now.table.now) (net_ports c.args.at.now.flat.now.tables c.args.new.now) c.args.old.now.steps c.args.timing.now.steps) c.args.at.now.flat.now.tables code.Rejected c.args.at.now.table.now c.args.at.now.frames.now
    c.in-Some.place c.index-table-place.result c.in-Some.ensures c.index-table-place.is c.module_fault.result c.module_fault.ensures
