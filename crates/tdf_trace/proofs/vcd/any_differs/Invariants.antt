use Rattle.std.proofs.Common.{◌≡◌}
use Rattle.tdf_trace.specs.Columns.{before_row, shown_row}
use Rattle.tdf_trace.specs.Vcd.{column_differs}
use Rattle.tdf_trace.proofs.vcd.any_differs.Given as goal

abbrev pub invariant-loop-i : goal.invariant-loop-i
invariant-loop-i l = l.found ≡ column_differs (before_row l.columns.items) (shown_row l.columns.items) l.i
