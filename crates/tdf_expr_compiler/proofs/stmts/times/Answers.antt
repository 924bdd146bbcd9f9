use Rattle.tdf_expr_compiler.proofs.Ends.{rate_end, rate_missing}
use Rattle.tdf_expr_compiler.proofs.stmts.times.Goals as goal
use Rattle.tdf_expr_symbols.specs.Seen.{seen}

pub returns-in-None : goal.returns-in-None
returns-in-None c = rate_missing c.args.scope.now c.args.factor c.args.name.now _ c.in-None.ensures

pub returns-in-Some : goal.returns-in-Some
returns-in-Some c = rw c.small.ensures (rate_end c.args.scope.now c.args.factor c.args.name.now (seen c.in-Some.found.thing) c.in-Some.found.numbers c.in-Some.ensures)
