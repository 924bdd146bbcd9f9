use Rattle.tdf_expr_compiler.proofs.Acting.{acts_for}
use Rattle.tdf_expr_compiler.proofs.stmts.repeated.Goals as goal

pub returns : goal.returns
returns c loops line name ss all =
    rw (c.small.ensures, c.in_ok-body.ensures.ok) (acts_for c.args.scope.now loops line name c.args.from c.args.limit.now ss _ c.end_of-turns.result c.args.body (c.end_of-turns.ensures loops) all)
