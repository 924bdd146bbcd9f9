use Rattle.tdf_expr_semantics.proofs.Indices.{inside}
use Rattle.tdf_expr_semantics.proofs.laws.law_indices.Goals as goal

pub returns : goal.returns
returns c = inside
