use Rattle.std.proofs.Common.{◌∙◌, List, ℕ, ap}
use Rattle.std.specs.Prelude.{map}
use Rattle.tdf_bind_ports.proofs.Lines.{map_map}
use Rattle.tdf_bind_ports.proofs.ports.Ports.place.Goals as goal
use Rattle.tdf_expr_symbols.specs.Names.{place_in}
use Rattle.tdf_lang_tree.specs.declared.blocks.PortLine.{PortLine}

pub returns : goal.returns
returns c = c.place.ensures ∙ ap (λ (ns : List (List ℕ)). place_in ns c.args.name.now) (c.self.invariant ∙ map_map c.self.inside.lines.items ∙ ap (λ (ps : List PortLine). map (λ p. p.name) ps) c.self.view_is)
