use Rattle.std.proofs.Common.{◌∙◌, ap}
use Rattle.std.specs.Option.{option_map}
use Rattle.tdf_bind_ports.proofs.Lines.{named_is}
use Rattle.tdf_bind_ports.proofs.ports.Ports.named.Goals as goal
use Rattle.tdf_expr_symbols.specs.Names.{found_at}

pub returns : goal.returns
returns c = ap (option_map (λ p. p.now)) (c.line_at.ensures ∙ ap (λ ls. found_at ls c.place.result) c.deref.ensures.value)
    ∙ named_is c.self.inside.lines.items c.self.inside.names c.args.self.now c.args.name.now c.place.result c.self.invariant c.self.view_is c.place.ensures
