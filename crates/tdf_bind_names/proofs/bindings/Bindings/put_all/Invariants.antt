-- The targets of the lines so far.
use Rattle.std.proofs.Common.{take}
use Rattle.tdf_bind_names.proofs.bindings.Bindings.put_all.Given as goal
use Rattle.tdf_bind_names.specs.machine.Bindings.{AreTargets}

abbrev pub invariant-loop-member : goal.invariant-loop-member
invariant-loop-member l = AreTargets l.inside (take l.member-index l.member-items) l.self
