use Rattle.std.proofs.Common.{◌≡◌, ◌++◌, take}
use Rattle.tdf_bind_tables.specs.machine.ActorSteps.{event_actors}
use Rattle.tdf_bind_tables.proofs.actors.put_places.Given as goal

abbrev pub invariant-loop-number : goal.invariant-loop-number
invariant-loop-number l = l.places.items ≡ l.initial.places.items ++ event_actors (take l.number l.ports)
