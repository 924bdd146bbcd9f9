use Rattle.std.proofs.Common.{◌∙◌}
use Rattle.std.proofs.lemmas.Result.{IfOk-weaker}
use Rattle.tdf_expr_names.proofs.BlockFirsts.{de_first}
use Rattle.tdf_expr_names.proofs.blocks.check_de.Goals as goal
use Rattle.tdf_lang_tree.specs.Views.{pure_de}

pub returns : goal.returns
returns c = IfOk-weaker c.de_within-found.result _ _
    (λ found is. is ∙ de_first c.args.globals.now (pure_de c.args.block.now) c.args.first)
    (rw c.new-scope.ensures at c.de_within-found.ensures)
