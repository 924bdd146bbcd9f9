use Rattle.tdf_expr_compiler.proofs.Assigned.{sets_cell, sets_no_cell}
use Rattle.tdf_expr_compiler.proofs.targets.set_cell.Goals as goal

pub returns-in-Some : goal.returns-in-Some
returns-in-Some c = rw (c.in-Some.is, c.from-part.ensures, c.new.ensures) (sets_cell c.in-Some.shape c.format_of.result c.args.spot c.args.value.node c.args.value.part c.format_of.ensures)

pub returns-in-None : goal.returns-in-None
returns-in-None c = rw c.in-None.is (sets_no_cell c.args.spot c.args.value.node c.args.value.part)
