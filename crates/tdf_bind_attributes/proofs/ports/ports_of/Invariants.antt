use Rattle.std.proofs.Common.{◌≡◌, ◌++◌, map, drop}
use Rattle.tdf_bind_attributes.proofs.ports.ports_of.Given as goal
use Rattle.tdf_bind_attributes.specs.Roles.{port_data}
use Rattle.tdf_lang_tree.specs.Views.{pure_tdf}

abbrev pub invariant-loop-line : goal.invariant-loop-line
invariant-loop-line l = l.ports.items ++ map (port_data l.scope (pure_tdf l.block)) (map (λ p. p.now) (drop l.line-index l.line-items))
    ≡ map (port_data l.scope (pure_tdf l.block)) (map (λ p. p.now) l.line-items)
