use Rattle.std.proofs.Common.{map}
use Rattle.tdf_exec_parts.specs.Restored.{AreOwnStateRings}
use Rattle.tdf_exec_parts.proofs.restoring.state_rings.Given as goal

abbrev pub invariant-loop-i : goal.invariant-loop-i
invariant-loop-i l = AreOwnStateRings l.tables l.bounds.items l.numbers (map (λ nums. nums.items) l.edges) l.i l.rings.items
