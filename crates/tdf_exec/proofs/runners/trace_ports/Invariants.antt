use Rattle.std.proofs.Common.{◌≡◌, [], take}
use Rattle.std.specs.List.{flat_map}
use Rattle.tdf_exec.specs.Gained.{with_gains}
use Rattle.tdf_exec.specs.Traced.{traced_port_samples}
use Rattle.tdf_exec.proofs.runners.trace_ports.Given as goal

abbrev pub invariant-loop-j : goal.invariant-loop-j
invariant-loop-j l = l.outputs ≡ with_gains l.initial.outputs [] (flat_map (traced_port_samples l.ports) (take l.j l.list.items))
