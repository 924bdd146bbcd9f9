use Rattle.std.proofs.Common.{◌≡◌, map, [], replicate, drop, length}
use Rattle.tdf_bind_attributes.proofs.initials.initials_of.Given as goal
use Rattle.tdf_bind_attributes.specs.machine.Standing.{initials_put}

abbrev pub invariant-loop-initial : goal.invariant-loop-initial
invariant-loop-initial l = initials_put l.scope.own (drop l.initial-index l.initial-items) (map (λ m. m.entries) l.maps.items)
    ≡ initials_put l.scope.own l.initial-items (replicate (length l.scope.own.things) [])
