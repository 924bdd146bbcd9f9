use Rattle.std.proofs.Common.{◌∙◌, sym}
use Rattle.std.proofs.lemmas.Result.{IfOk-weaker}
use Rattle.tdf_base.proofs.Api.{least_append}
use Rattle.tdf_expr_names.proofs.blocks.tdf_within.Goals as goal

pub returns : goal.returns
returns c = IfOk-weaker c.check_parts.result _ _
    (λ found is. is ∙ sym (least_append c.args.first _ _))
    (rw (c.in_ok-first.ensures.names, c.in_ok-first.ensures.first) at c.check_parts.ensures)
