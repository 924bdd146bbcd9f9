use Rattle.tdf_rings.specs.views.Fresh.{AreFresh}
use Rattle.tdf_rings.proofs.carrying.all_fresh.Given as goal

abbrev pub invariant-loop-e : goal.invariant-loop-e
invariant-loop-e l = AreFresh l.rings l.bounds l.e l.list.items
