use Rattle.std.proofs.Common.{map}
use Rattle.tdf_events.proofs.Fits.{AreCellsBelow}
use Rattle.tdf_events.proofs.fitting.are_cells.Given as goal

abbrev pub invariant-loop-i : goal.invariant-loop-i
invariant-loop-i l = AreCellsBelow l.checked l.rows (map (λ nums. nums.items) l.blocks) l.i
