use Rattle.tdf_expr_semantics.proofs.Widths.{within}
use Rattle.tdf_expr_semantics.proofs.laws.law_widths.Goals as goal

pub returns : goal.returns
returns c = within
