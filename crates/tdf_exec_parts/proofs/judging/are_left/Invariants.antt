use Rattle.std.proofs.Common.{map}
use Rattle.tdf_exec_parts.proofs.judging.are_left.Given as goal
use Rattle.tdf_exec_parts.specs.machine.Traffic.{AreLeftUpTo}

abbrev pub invariant-loop-i : goal.invariant-loop-i
invariant-loop-i l = AreLeftUpTo l.tables l.fired.entries.now l.reads l.writes l.numbers (map (λ nums. nums.items) l.edges) l.i
