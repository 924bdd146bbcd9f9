use Rattle.tdf_exec_parts.specs.Rings.{AreOwnFirstRings}
use Rattle.tdf_exec_parts.proofs.filling.first_rings.Given as goal

abbrev pub invariant-loop-i : goal.invariant-loop-i
invariant-loop-i l = AreOwnFirstRings l.tables l.bounds.items l.numbers l.i l.rings.items
