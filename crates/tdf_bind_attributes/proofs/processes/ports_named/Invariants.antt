use Rattle.std.proofs.Common.{◌≡◌, ◌++◌, map, drop}
use Rattle.tdf_bind_attributes.proofs.processes.ports_named.Given as goal
use Rattle.tdf_bind_attributes.specs.Roles.{places_among}

abbrev pub invariant-loop-line : goal.invariant-loop-line
invariant-loop-line l = l.places.items ++ places_among (map (λ p. p.name) l.ports) (drop l.line-index l.line-items) ≡ places_among (map (λ p. p.name) l.ports) l.line-items
