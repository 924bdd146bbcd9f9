use Rattle.tdf_expr_compiler.proofs.Assigned.{sets_sample, sets_no_sample}
use Rattle.tdf_expr_compiler.proofs.targets.set_sample.Goals as goal

pub returns-in-Some : goal.returns-in-Some
returns-in-Some c = rw (c.in-Some.is, c.from-part.ensures, c.new.ensures) (sets_sample c.in-Some.shape c.format_of.result c.args.port c.args.spot c.args.value.node c.args.value.part c.format_of.ensures)

pub returns-in-None : goal.returns-in-None
returns-in-None c = rw c.in-None.is (sets_no_sample c.args.port c.args.spot c.args.value.node c.args.value.part)
