use Rattle.tdf_expr_machine.proofs.InOrder.{sequence_both}
use Rattle.tdf_expr_machine.proofs.sequences.joined.Goals as goal

pub returns-in-Ok : goal.returns-in-Ok
returns-in-Ok c before after first second = rw c.in-Ok.ensures.ok (sequence_both _ _ before after _ _ first second)
