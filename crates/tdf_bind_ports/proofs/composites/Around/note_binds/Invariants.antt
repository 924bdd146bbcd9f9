-- What is noted and bound so far, with the lines that are left.
use Rattle.std.proofs.Common.{◌≡◌, drop}
use Rattle.tdf_bind_ports.proofs.composites.Around.note_binds.Given as goal
use Rattle.tdf_bind_ports.specs.Faults.{least_link_with}
use Rattle.tdf_bind_ports.specs.machine.Pairs.{later, pairs_after_all}

abbrev pub invariant-loop-member : goal.invariant-loop-member
invariant-loop-member l = record {
  first : least_link_with l.first (later l.self l.pairs (drop l.member-index l.member-items)) ≡ least_link_with l.initial.first (later l.self l.initial.pairs l.member-items);
  pairs : pairs_after_all (drop l.member-index l.member-items) l.pairs ≡ pairs_after_all l.member-items l.initial.pairs;
}
