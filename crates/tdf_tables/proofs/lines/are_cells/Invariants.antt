use Rattle.std.proofs.Common.{◌≡◌, ◌-◌}
use Rattle.tdf_tables.specs.machine.Scan.{are_cells}
use Rattle.tdf_tables.proofs.lines.are_cells.Given as goal

abbrev pub invariant-loop-k : goal.invariant-loop-k
invariant-loop-k l = are_cells (l.count - l._k) l.rest ≡ are_cells l.count l.fn.text
