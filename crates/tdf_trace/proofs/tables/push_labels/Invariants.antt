use Rattle.std.proofs.Common.{◌≡◌, ◌++◌}
use Rattle.tdf_io.specs.Bytes.{pieces_text}
use Rattle.tdf_trace.specs.Tables.{label_piece}
use Rattle.tdf_trace.specs.Writings.{labels_of}
use Rattle.tdf_trace.proofs.tables.push_labels.Given as goal

abbrev pub invariant-loop-i : goal.invariant-loop-i
invariant-loop-i l = l.line.items ≡ l.initial.line.items ++ pieces_text (label_piece (labels_of l.variables.items)) l.i
