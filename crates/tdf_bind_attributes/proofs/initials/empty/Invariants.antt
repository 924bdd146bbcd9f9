use Rattle.std.proofs.Common.{◌≡◌, map, [], replicate}
use Rattle.tdf_bind_attributes.proofs.initials.empty.Given as goal

abbrev pub invariant-loop-name : goal.invariant-loop-name
invariant-loop-name l = map (λ m. m.entries) l.maps.items ≡ replicate l.name []
