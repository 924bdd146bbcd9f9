use Rattle.tdf_expr_compiler.proofs.Operators.{computes_cast}
use Rattle.tdf_expr_compiler.proofs.exprs.fitted.Goals as goal

pub returns : goal.returns
returns c scope loops name x named inner =
    rw (c.in_ok-inner.ensures.ok, c.from-part.ensures, c.part_of.ensures)
    (computes_cast scope loops x c.args.a.node c.args.a.part _ name c.args.shape c.format_of.result c.format_of.ensures c.requires named inner)
