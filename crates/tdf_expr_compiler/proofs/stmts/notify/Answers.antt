use Rattle.tdf_expr_compiler.proofs.Acting.{acts_notify, acts_no_notify}
use Rattle.tdf_expr_compiler.proofs.stmts.notify.Goals as goal
use Rattle.tdf_expr_symbols.specs.Seen.{seen}

pub returns-in-None : goal.returns-in-None
returns-in-None c loops line = acts_no_notify c.args.scope.now loops line c.args.event.now c.args.after _ c.in-None.ensures

pub returns-in-Some : goal.returns-in-Some
returns-in-Some c loops line = acts_notify c.args.scope.now loops line c.args.event.now c.args.after (seen c.in-Some.found.thing) c.in-Some.found.numbers c.in-Some.ensures
