use Rattle.std.proofs.Common.{arith, length}
use Rattle.tdf_sampling.proofs.Measuring.{measured_none}
use Rattle.tdf_sampling.proofs.groups.clear.Goals as goal

pub returns : goal.returns
returns c = measured_none (length c.args.columns.now.items) c.loop-place.columns.items c.loop-place.invariant.same (λ k less. c.loop-place.invariant.cleared k (omega arith))
