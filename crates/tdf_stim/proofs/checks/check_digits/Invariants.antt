use Rattle.std.proofs.Common.{◌≡◌, ◌+◌, map, drop}
use Rattle.tdf_stim.specs.Drivable.{first_row_line, has_long, line_from}
use Rattle.tdf_stim.specs.machine.Maps.{seen}
use Rattle.tdf_tables.specs.Rows.{row_of}
use Rattle.tdf_stim.proofs.checks.check_digits.Given as goal

abbrev pub invariant-loop-i : goal.invariant-loop-i
invariant-loop-i l = line_from (l.i + 2) (λ row. has_long (map seen l.sources) row.cells) (map row_of (drop l.i l.rows))
    ≡ first_row_line (λ row. has_long (map seen l.sources) row.cells) (map row_of l.rows)
