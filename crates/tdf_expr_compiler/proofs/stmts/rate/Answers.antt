use Rattle.tdf_expr_compiler.proofs.Acting.{sets_rate}
use Rattle.tdf_expr_compiler.proofs.stmts.rate.Goals as goal

pub returns-in-RateVar : goal.returns-in-RateVar
returns-in-RateVar c scope loops n numbered =
    rw (c.in-RateVar.is, c.from-part.ensures, c.small.ensures, c.small-in-RateVar.ensures) (sets_rate scope loops n c.args.numbers _ _ _ c.args.value.node c.args.value.part numbered)
