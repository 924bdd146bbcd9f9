use Rattle.std.proofs.Common.{◌≡◌, ◌+◌, map, drop, take}
use Rattle.tdf_stim.specs.Drivable.{first_row_line, is_off, line_from}
use Rattle.tdf_stim.specs.Driver.{counts}
use Rattle.tdf_tables.specs.Rows.{row_of}
use Rattle.tdf_stim.proofs.checks.times.Given as goal

abbrev pub invariant-loop-i : goal.invariant-loop-i
invariant-loop-i l = record {
  times : l.times.items ≡ map (λ row. counts l.unit row.time) (map row_of (take l.i l.rows));
  rest : line_from (l.i + 2) (λ row. is_off l.unit row.time) (map row_of (drop l.i l.rows)) ≡ first_row_line (λ row. is_off l.unit row.time) (map row_of l.rows);
}
