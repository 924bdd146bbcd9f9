use Rattle.tdf_expr_machine.proofs.Flats.{operand_cell, operand_sample}
use Rattle.tdf_expr_machine.proofs.flattening.operand_of.Goals as goal

pub returns-in_ok-joint_bits-in-Cell : goal.returns-in_ok-joint_bits-in-Cell
returns-in_ok-joint_bits-in-Cell c =
    let most = c.in_ok-joint_bits-in-Cell in
    operand_cell c.args.node.now c.in-Cell.place c.in-Cell.bits c.args.up most.field-0 c.in-Cell.is most.ensures.first most.ensures.few

pub returns-in_ok-joint_bits-in-Sample : goal.returns-in_ok-joint_bits-in-Sample
returns-in_ok-joint_bits-in-Sample c =
    let most = c.in_ok-joint_bits-in-Sample in
    operand_sample c.args.node.now c.in-Sample.place c.in-Sample.bits c.args.up most.field-0 c.in-Sample.is most.ensures.first most.ensures.few
