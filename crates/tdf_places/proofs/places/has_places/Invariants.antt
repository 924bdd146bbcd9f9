use Rattle.tdf_places.specs.views.Mapped.{AreMappedUpTo}
use Rattle.tdf_places.proofs.places.has_places.Given as goal

abbrev pub invariant-loop-i : goal.invariant-loop-i
invariant-loop-i l = AreMappedUpTo l.i l.numbers l.by_number
