use Rattle.std.proofs.Common.{map}
use Rattle.tdf_events.proofs.resuming.set_all.Given as goal
use Rattle.tdf_events.specs.machine.Resuming.{HaveCells}

abbrev pub invariant-loop-i : goal.invariant-loop-i
invariant-loop-i l = HaveCells (map (λ nums. nums.items) l.blocks) l.i l.initial.frames.items l.frames.items
