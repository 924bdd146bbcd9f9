use Rattle.std.proofs.Common.{◌≡◌, ◌++◌, drop, map, take}
use Rattle.tdf_exec.specs.machine.Tracing.{rated}
use Rattle.tdf_exec.proofs.tracing.rate_ports.Given as goal

abbrev pub invariant-loop-j : goal.invariant-loop-j
invariant-loop-j l = l.list.items ≡ map (rated l.tables l.attrs.rows) (take l.j l.initial.list.items) ++ drop l.j l.initial.list.items
