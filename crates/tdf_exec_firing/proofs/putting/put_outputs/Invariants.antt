use Rattle.std.proofs.Common.{◌≡◌}
use Rattle.tdf_exec_firing.specs.Edges.{with_rings}
use Rattle.tdf_exec_firing.specs.machine.Moving.{AreChangedUpTo, out_edge, put_by}
use Rattle.tdf_exec_firing.proofs.putting.put_outputs.Given as goal

abbrev pub invariant-loop-i : goal.invariant-loop-i
invariant-loop-i l = record {
  put : AreChangedUpTo out_edge (put_by l.initial.edges.writes l.ports) l.outs l.i l.initial.edges.rings l.edges.rings;
  rest : l.edges ≡ with_rings l.edges.rings l.initial.edges;
}
