use Rattle.std.proofs.Common.{◌≡◌, []}
use Rattle.tdf_exec.specs.Gained.{with_gains}
use Rattle.tdf_exec.specs.Traced.{first_samples}
use Rattle.tdf_exec.proofs.runners.trace_port.Given as goal

abbrev pub invariant-loop-i : goal.invariant-loop-i
invariant-loop-i l = l.outputs ≡ with_gains l.initial.outputs [] (first_samples l.ports l.traced l.i)
