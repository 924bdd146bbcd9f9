use Rattle.tdf_expr_compiler.proofs.Operators.{computes_not}
use Rattle.tdf_expr_compiler.proofs.exprs.denied.Goals as goal

pub returns : goal.returns
returns c scope loops x inner = rw c.in_ok-inner.ensures.ok (computes_not scope loops x _ _ _ inner)
