use Rattle.std.proofs.Common.{map, length}
use Rattle.tdf_stim.proofs.Loops.{AreSeen}
use Rattle.tdf_stim.specs.machine.Maps.{found_source, seen}
use Rattle.tdf_tables.specs.Words.{words_of}
use Rattle.tdf_stim.proofs.signals.Columns.by.Given as goal

abbrev pub invariant-loop-label : goal.invariant-loop-label
invariant-loop-label l = AreSeen (found_source l.signals) (map seen l.columns.sources.items) l.columns.ignored.items (words_of l.rest) (words_of l.fn.labels)

abbrev pub decreases-loop-label : goal.decreases-loop-label
decreases-loop-label l = length l.rest
