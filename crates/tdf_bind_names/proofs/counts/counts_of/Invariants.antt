-- The counts of the blocks so far.
use Rattle.tdf_bind_names.proofs.counts.counts_of.Given as goal
use Rattle.tdf_bind_names.specs.machine.Counts.{AreCounts}

abbrev pub invariant-loop-block : goal.invariant-loop-block
invariant-loop-block l = AreCounts l.block-index l.signals l.weights l.block-items l.counts.items
