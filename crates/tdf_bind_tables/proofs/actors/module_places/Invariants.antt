use Rattle.std.proofs.Common.{◌≡◌, map}
use Rattle.std.specs.List.{range_with_len}
use Rattle.tdf_bind_tables.specs.Actors.{module_actor}
use Rattle.tdf_bind_tables.proofs.actors.module_places.Given as goal

abbrev pub invariant-loop-number : goal.invariant-loop-number
invariant-loop-number l = l.places.items ≡ map module_actor (range_with_len 0 l.number)
