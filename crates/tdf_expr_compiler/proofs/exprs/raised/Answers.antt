use Rattle.tdf_expr_compiler.proofs.Operators.{computes_up}
use Rattle.tdf_expr_compiler.proofs.exprs.raised.Goals as goal

pub returns : goal.returns
returns c scope loops x inner = rw (c.in_ok-inner.ensures.ok, c.small.ensures) (computes_up scope loops x _ _ _ c.args.bits inner)
