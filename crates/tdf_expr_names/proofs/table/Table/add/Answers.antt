use Rattle.std.proofs.Common.{◌∙◌, ap}
use Rattle.std.specs.Prelude.{map, not}
use Rattle.tdf_expr_names.specs.Names.{has, with_declared}
use Rattle.tdf_expr_names.proofs.Tables.{has_bytes, added_bytes}
use Rattle.tdf_expr_names.proofs.table.Table.add.Goals as goal

pub returns-clause-new : goal.returns-clause-new
returns-clause-new c = c.in_ok-new.ensures.added ∙ ap not (has_bytes c.self.inside.set.keys c.args.name.now) ∙ ap (λ ns. not (has ns c.args.name.now)) c.self.view_is

pub returns-clause-names : goal.returns-clause-names
returns-clause-names c = ap (map (λ k. k.now)) c.in_ok-new.ensures.keys ∙ added_bytes c.self.inside.set.keys c.args.name
    ∙ ap (λ ns. with_declared ns c.args.name.now) c.self.view_is
