use Rattle.std.proofs.Common.{◌≡◌, List, [], replicate}
use Rattle.tdf_exec.specs.declared.runners.TracedPort.{TracedPort}
use Rattle.tdf_exec.proofs.tracing.no_rows.Given as goal

abbrev none : List TracedPort
none = []

abbrev pub invariant-loop : goal.invariant-loop
invariant-loop l = l.rows.items ≡ replicate l.counter none
