use Rattle.std.proofs.Common.{◌≡◌, map, take}
use Rattle.tdf_exec_firing.specs.declared.wires.OutWire.{OutWire}
use Rattle.tdf_exec_layout.proofs.ends.edges_of.Given as goal

abbrev pub invariant-loop-i : goal.invariant-loop-i
invariant-loop-i l = l.edges.items ≡ map (λ (w : OutWire). w.edge) (take l.i l.outs)
