use Rattle.std.proofs.Common.{◌∙◌}
use Rattle.std.proofs.lemmas.Result.{IfOk-weaker}
use Rattle.tdf_expr_names.proofs.BlockFirsts.{tdf_first}
use Rattle.tdf_expr_names.proofs.blocks.check_tdf.Goals as goal
use Rattle.tdf_lang_tree.specs.Views.{pure_tdf}

pub returns : goal.returns
returns c = IfOk-weaker c.tdf_within-found.result _ _
    (λ found is. is ∙ tdf_first c.args.globals.now (pure_tdf c.args.block.now) c.args.first)
    (rw c.new-scope.ensures at c.tdf_within-found.ensures)
