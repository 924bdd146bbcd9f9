-- What is pushed so far, with what is left.
use Rattle.std.proofs.Common.{◌≡◌, ◌++◌, drop}
use Rattle.std.specs.List.{flat_map}
use Rattle.std.specs.Prelude.{map}
use Rattle.tdf_bind_ports.proofs.ports.member_lines.Given as goal
use Rattle.tdf_bind_ports.specs.Ports.{port_of_member}

abbrev pub invariant-loop-member : goal.invariant-loop-member
invariant-loop-member l = map (λ p. p.now) l.lines.items ++ flat_map port_of_member (drop l.member-index l.member-items) ≡ flat_map port_of_member l.member-items
