use Rattle.std.proofs.Common.{◌≡◌, replicate}
use Rattle.tdf_exec_layout.specs.machine.Ends.{no_ends}
use Rattle.tdf_exec_layout.proofs.ends.no_ends.Given as goal

abbrev pub invariant-loop : goal.invariant-loop
invariant-loop l = l.rows.items ≡ replicate l.counter no_ends
