use Rattle.std.proofs.Common.{◌+◌, ◌*◌}
use Rattle.tdf_expr_machine.proofs.sequences.+gather.Given as goal

abbrev pub decreases-gathered : goal.decreases-gathered
decreases-gathered l = 2 * l.count + 1

abbrev pub decreases-halves : goal.decreases-halves
decreases-halves l = 2 * l.count
