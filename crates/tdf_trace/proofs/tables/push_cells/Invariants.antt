use Rattle.std.proofs.Common.{◌≡◌, ◌++◌}
use Rattle.tdf_io.specs.Bytes.{pieces_text}
use Rattle.tdf_trace.specs.Columns.{shown_row}
use Rattle.tdf_trace.specs.Tables.{cell_piece}
use Rattle.tdf_trace.proofs.tables.push_cells.Given as goal

abbrev pub invariant-loop-i : goal.invariant-loop-i
invariant-loop-i l = l.line.items ≡ l.initial.line.items ++ pieces_text (cell_piece (shown_row l.columns.items)) l.i
