-- The ports before this one are bound.
use Rattle.std.proofs.Common.{◌≡◌, drop}
use Rattle.std.specs.Prelude.{map}
use Rattle.tdf_bind_ports.proofs.composites.first_free.Given as goal
use Rattle.tdf_bind_ports.specs.Links.{first_free}
use Rattle.tdf_bind_ports.specs.machine.Pairs.{has_pair}

abbrev pub invariant-loop-port : goal.invariant-loop-port
invariant-loop-port l = first_free (has_pair l.pairs) l.instance (map (λ p. p.now) (drop l.port-index l.ports)) ≡ first_free (has_pair l.pairs) l.instance (map (λ p. p.now) l.ports)
