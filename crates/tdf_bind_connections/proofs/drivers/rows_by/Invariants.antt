use Rattle.std.proofs.Common.{◌≡◌, take}
use Rattle.std.specs.List.{enumerate_from}
use Rattle.std.specs.Prelude.{map}
use Rattle.tdf_bind_connections.specs.machine.DriverSteps.{row_by}
use Rattle.tdf_bind_connections.proofs.drivers.rows_by.Given as goal

abbrev pub invariant-loop-number : goal.invariant-loop-number
invariant-loop-number l = l.rows.items ≡ map (λ s. row_by l.drivers s.0 s.1) (enumerate_from 0 (take l.number l.signals))
