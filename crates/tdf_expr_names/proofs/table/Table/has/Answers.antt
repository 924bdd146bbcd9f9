use Rattle.std.proofs.Common.{◌∙◌, ap}
use Rattle.tdf_expr_names.specs.Names.{has}
use Rattle.tdf_expr_names.proofs.Tables.{has_bytes}
use Rattle.tdf_expr_names.proofs.table.Table.has.Goals as goal

pub returns : goal.returns
returns c = c.contains.ensures ∙ has_bytes c.self.inside.set.keys c.args.name.now ∙ ap (λ ns. has ns c.args.name.now) c.self.view_is
