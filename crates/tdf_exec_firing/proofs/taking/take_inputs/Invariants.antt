use Rattle.std.proofs.Common.{◌≡◌}
use Rattle.tdf_exec_firing.specs.Edges.{with_rings}
use Rattle.tdf_exec_firing.specs.machine.Filling.{AreFilledUpTo, count_read, list_read}
use Rattle.tdf_exec_firing.specs.machine.Moving.{AreChangedUpTo, in_edge, taken_by}
use Rattle.tdf_exec_firing.proofs.taking.take_inputs.Given as goal

abbrev pub invariant-loop-i : goal.invariant-loop-i
invariant-loop-i l = record {
  filled : AreFilledUpTo l.ins (count_read l.initial.edges.reads) (list_read l.initial.edges.rings) l.i l.initial.ports l.ports;
  taken : AreChangedUpTo in_edge (taken_by l.initial.edges.reads) l.ins l.i l.initial.edges.rings l.edges.rings;
  rest : l.edges ≡ with_rings l.edges.rings l.initial.edges;
}
