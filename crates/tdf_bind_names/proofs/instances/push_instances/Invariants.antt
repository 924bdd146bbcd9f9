-- The instances so far, with the lines that are left.
use Rattle.std.proofs.Common.{◌≡◌, ◌++◌, drop}
use Rattle.std.specs.List.{flat_map}
use Rattle.tdf_bind_names.proofs.instances.push_instances.Given as goal
use Rattle.tdf_bind_names.specs.Resolved.{instance_of}
use Rattle.tdf_bind_names.specs.machine.Bindings.{target_at}

abbrev pub invariant-loop-member : goal.invariant-loop-member
invariant-loop-member l = l.out.items ++ flat_map (instance_of l.known (target_at l.bindings)) (drop l.member-index l.member-items) ≡ flat_map (instance_of l.known (target_at l.bindings)) l.member-items
