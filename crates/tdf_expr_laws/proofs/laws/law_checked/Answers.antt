use Rattle.tdf_expr_laws.proofs.Checked.{checked_is_of_tree}
use Rattle.tdf_expr_laws.proofs.laws.law_checked.Goals as goal

pub returns : goal.returns
returns c = checked_is_of_tree
