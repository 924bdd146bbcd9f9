use Rattle.std.proofs.Common.{take}
use Rattle.tdf_expr_machine.specs.machine.Flattening.{IsFlatOf}
use Rattle.tdf_expr_machine.proofs.flattening.flat_code.Given as goal

abbrev pub invariant-loop-act : goal.invariant-loop-act
invariant-loop-act l = IsFlatOf (take l.act-index l.list) l.code.items
