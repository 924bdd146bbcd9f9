use Rattle.std.proofs.Common.{◌≡◌, ◌-◌, slice_get}
use Rattle.tdf_tables.specs.Words.{words_of}
use Rattle.tdf_tables.proofs.table.word_at.Given as goal

abbrev pub invariant-loop-before : goal.invariant-loop-before
invariant-loop-before l = slice_get (words_of l.fn.text) l.place ≡ slice_get (words_of l.rest) (l.place - l._before)
