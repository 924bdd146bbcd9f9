use Rattle.std.proofs.Common.{◌≡◌, map, take}
use Rattle.tdf_stim.specs.Driver.{literals}
use Rattle.tdf_stim.specs.machine.Cells.{first_words}
use Rattle.tdf_tables.specs.Words.{words_of}
use Rattle.tdf_stim.proofs.literals.literals.Given as goal

abbrev pub invariant-loop-text : goal.invariant-loop-text
invariant-loop-text l = l.column.items ≡ literals l.start (first_words (map (λ text. words_of text.now) (take l.text-index l.cells)))
