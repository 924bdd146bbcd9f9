use Rattle.tdf_base.specs.declared.codes.Code.TheVariants as code
use Rattle.tdf_dynamic.proofs.Judging.{IsToldFirst, refusal_weaker, told_first}
use Rattle.tdf_dynamic.specs.machine.Boundary.{InRange, IsRefusedAt, Marks}
use Rattle.tdf_dynamic.proofs.next.changed.Goals as goal

pub returns-in-Some-clause-refused : goal.returns-in-Some-clause-refused
returns-in-Some-clause-refused c =
    refusal_weaker (IsToldFirst Marks c.args.flat.now.tables code.Range c.args.table.now c.args.frames.now) (IsRefusedAt c.args.flat.now.tables c.args.cluster c.args.table.now c.args.frames.now)
    (λ fault told. InRange told.0 told.1 told.2) c.module_fault.result
    (told_first Marks c.args.flat.now.tables code.Range c.args.table.now c.args.frames.now c.in-Some.place c.index-table-place.result c.in-Some.ensures.first c.index-table-place.is c.module_fault.result c.module_fault.ensures)
