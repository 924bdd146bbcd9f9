use Rattle.tdf_exec_layout.specs.machine.Places.{PlacesUpTo}
use Rattle.tdf_exec_layout.proofs.places.port_places.Given as goal

abbrev pub invariant-loop-number : goal.invariant-loop-number
invariant-loop-number l = PlacesUpTo l.modules l.ports l.number l.counts.items l.places.items
