use Rattle.std.proofs.Common.{arith}
use Rattle.tdf_sampling.proofs.Choices.{taken_more, taken_none}
use Rattle.tdf_sampling.proofs.choosing.nth.Goals as goal

pub loop-place-init : goal.loop-place-init
loop-place-init c = rw c.new-chosen.ensures.items (taken_none c.args.step)

pub loop-place-preserved : goal.loop-place-preserved
loop-place-preserved c = taken_more c.args.step c.loop-place.place c.args.rows.now _ _ _ (omega arith) c.loop-place.invariant c.in_ok-take_row.ensures
