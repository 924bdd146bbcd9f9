use Rattle.std.proofs.Common.{◌≡◌, take, map}
use Rattle.tdf_events.proofs.state.cells_of.Given as goal

abbrev pub invariant-loop-i : goal.invariant-loop-i
invariant-loop-i l = map (λ nums. nums.items) l.blocks.items ≡ map (λ frame. frame.state.cells) (take l.i l.frames)
