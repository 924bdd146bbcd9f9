use Rattle.std.proofs.Common.{rules, arith}
use Rattle.std.proofs.lemmas.Grind.{common_steps}
use Rattle.std.proofs.lemmas.List.{take_more_set}
use Rattle.tdf_expr_machine.proofs.acts.copied.Goals as goal

pub loop-depth-preserved : goal.loop-depth-preserved
loop-depth-preserved c = record { long = search rules; same = grind (arith, common_steps, take_more_set) }

pub returns : goal.returns
returns c = grind (arith, common_steps)
