-- The targets so far.
use Rattle.std.proofs.Common.{◌≡◌, take}
use Rattle.std.specs.Prelude.{map}
use Rattle.tdf_bind_names.proofs.instances.targets_of.Given as goal
use Rattle.tdf_bind_names.specs.Resolved.{targets_of}
use Rattle.tdf_bind_names.specs.machine.Bindings.{target_at}

abbrev pub invariant-loop-port : goal.invariant-loop-port
invariant-loop-port l = l.targets.items ≡ targets_of (target_at l.bindings) l.instance (map (λ p. p.now) (take l.port-index l.ports))
