-- What is noted so far, with the lines that are left.
use Rattle.std.proofs.Common.{◌≡◌, drop}
use Rattle.std.specs.List.{flat_map}
use Rattle.tdf_bind_ports.proofs.composites.Around.note_instances.Given as goal
use Rattle.tdf_bind_ports.specs.Faults.{least_link_with}
use Rattle.tdf_bind_ports.specs.Links.{instance_faults}
use Rattle.tdf_bind_ports.specs.machine.Pairs.{has_pair}

abbrev pub invariant-loop-member : goal.invariant-loop-member
invariant-loop-member l = least_link_with l.first (flat_map (instance_faults l.self (has_pair l.pairs)) (drop l.member-index l.member-items)) ≡ least_link_with l.initial.first (flat_map (instance_faults l.self (has_pair l.pairs)) l.member-items)
