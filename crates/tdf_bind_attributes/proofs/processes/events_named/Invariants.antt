use Rattle.std.proofs.Common.{◌≡◌, ◌++◌, drop}
use Rattle.tdf_bind_attributes.proofs.processes.events_named.Given as goal
use Rattle.tdf_bind_attributes.specs.Roles.{places_among}

abbrev pub invariant-loop-line : goal.invariant-loop-line
invariant-loop-line l = l.places.items ++ places_among l.events (drop l.line-index l.line-items) ≡ places_among l.events l.line-items
