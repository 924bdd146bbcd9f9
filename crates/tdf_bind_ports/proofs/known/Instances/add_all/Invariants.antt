-- The instances so far, with the lines that are left.
use Rattle.std.proofs.Common.{◌≡◌, drop}
use Rattle.tdf_bind_ports.proofs.known.Instances.add_all.Given as goal
use Rattle.tdf_bind_ports.specs.Ports.{with_instances}

abbrev pub invariant-loop-member : goal.invariant-loop-member
invariant-loop-member l = with_instances (drop l.member-index l.member-items) l.self ≡ with_instances l.member-items l.initial.self
