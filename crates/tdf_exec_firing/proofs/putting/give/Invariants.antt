use Rattle.std.proofs.Common.{◌≡◌, Some}
use Rattle.tdf_exec_firing.specs.Firing.{front_of}
use Rattle.tdf_exec_firing.specs.machine.Moving.{with_more}
use Rattle.tdf_exec_firing.proofs.putting.give.Given as goal

abbrev pub invariant-loop-i : goal.invariant-loop-i
invariant-loop-i l = l.ring ≡ with_more (front_of l.ports (Some l.port) l.i) l.initial.ring
