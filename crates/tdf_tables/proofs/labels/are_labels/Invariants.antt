use Rattle.std.proofs.Common.{◌≡◌, length}
use Rattle.std.specs.List.{list_all}
use Rattle.tdf_tables.specs.Words.{words_of}
use Rattle.tdf_tables.specs.machine.Scan.{is_label}
use Rattle.tdf_tables.proofs.labels.are_labels.Given as goal

abbrev pub invariant-loop-label : goal.invariant-loop-label
invariant-loop-label l = list_all is_label (words_of l.rest) ≡ list_all is_label (words_of l.fn.text)

abbrev pub decreases-loop-label : goal.decreases-loop-label
decreases-loop-label l = length l.rest
