use Rattle.std.proofs.Common.{◌∙◌, ap}
use Rattle.tdf_expr_symbols.proofs.Tables.{place_bytes}
use Rattle.tdf_expr_symbols.proofs.things.Table.place.Goals as goal
use Rattle.tdf_expr_symbols.specs.Names.{place_of}

pub returns : goal.returns
returns c = c.get_index_of.ensures.index ∙ place_bytes c.self.inside.set.keys c.args.name.now
    ∙ ap (λ s. place_of s c.args.name.now) c.self.view_is
