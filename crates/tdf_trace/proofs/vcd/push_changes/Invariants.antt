use Rattle.std.proofs.Common.{◌≡◌, ◌++◌}
use Rattle.tdf_io.specs.Bytes.{pieces_text}
use Rattle.tdf_trace.specs.Columns.{before_row, shown_row}
use Rattle.tdf_trace.specs.Vcd.{change_piece}
use Rattle.tdf_trace.specs.Writings.{sizes_of}
use Rattle.tdf_trace.proofs.vcd.push_changes.Given as goal

abbrev pub invariant-loop-i : goal.invariant-loop-i
invariant-loop-i l = l.line.items ≡ l.initial.line.items ++ pieces_text (change_piece (sizes_of l.variables.items) (before_row l.columns.items) (shown_row l.columns.items)) l.i
