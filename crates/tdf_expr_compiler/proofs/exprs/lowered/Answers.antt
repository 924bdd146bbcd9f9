use Rattle.tdf_expr_compiler.proofs.Operators.{computes_down}
use Rattle.tdf_expr_compiler.proofs.exprs.lowered.Goals as goal

pub returns : goal.returns
returns c scope loops x inner = rw (c.saturating_add.ensures, c.min-more.ensures) (computes_down scope loops x c.args.a.node c.args.a.part c.args.bits inner)
