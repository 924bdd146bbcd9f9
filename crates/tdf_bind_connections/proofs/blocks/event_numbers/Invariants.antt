use Rattle.std.proofs.Common.{◌≡◌, ◌+◌, take}
use Rattle.std.specs.Prelude.{map}
use Rattle.tdf_bind_connections.proofs.blocks.event_numbers.Given as goal

abbrev pub invariant-loop-i : goal.invariant-loop-i
invariant-loop-i l = l.numbers.items ≡ map (λ place. l.first + place) (take l.i l.places)
