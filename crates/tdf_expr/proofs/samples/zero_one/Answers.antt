use Rattle.tdf_expr.proofs.samples.zero_one.Goals as goal
use Rattle.tdf_expr.specs.machine.Zeroed.{zeroed_one}

pub returns : goal.returns
unfolding zeroed_one
returns c = c.clear_samples.ensures
