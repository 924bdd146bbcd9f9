use Rattle.tdf_save_reading.proofs.HeadSteps.{no_kind, table_piece, vcd_piece}
use Rattle.tdf_save_reading.proofs.head.read_kind.Goals as goal

pub returns-in-Some-clause-is : goal.returns-in-Some-clause-is
returns-in-Some-clause-is c = vcd_piece c.args.text.now c.in-Some.rest.now c.in-Some.ensures

pub returns-in-Some-cut-clause-is : goal.returns-in-Some-cut-clause-is
returns-in-Some-cut-clause-is c = table_piece c.args.text.now c.in-Some-cut.rest.now c.in-Some-cut.ensures

pub returns-in-None-clause-none : goal.returns-in-None-clause-none
returns-in-None-clause-none c = λ _. no_kind c.args.text.now c.in_default.ensures c.in-None.ensures
