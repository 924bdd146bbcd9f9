use Rattle.std.proofs.Common.{◌≡◌, ◌+◌, ◌≤◌, length}
use Rattle.tdf_tables.specs.Words.{words_of}
use Rattle.tdf_tables.proofs.table.count_words.Given as goal

abbrev pub invariant-loop-after : goal.invariant-loop-after
invariant-loop-after l = (l.count + length (words_of l.rest) ≡ length (words_of l.fn.text)) × (l.count + length l.rest ≤ length l.fn.text)

abbrev pub decreases-loop-after : goal.decreases-loop-after
decreases-loop-after l = length l.rest
