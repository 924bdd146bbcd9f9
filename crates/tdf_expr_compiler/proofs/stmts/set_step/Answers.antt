use Rattle.tdf_expr_compiler.proofs.Acting.{acts_step_module, acts_step, acts_no_step}
use Rattle.tdf_expr_compiler.proofs.stmts.set_step.Goals as goal
use Rattle.tdf_expr_symbols.specs.Seen.{seen}

pub returns-in-None : goal.returns-in-None
returns-in-None c loops line = rw c.in-None.is (acts_step_module c.args.scope.now loops line c.args.step)

pub returns-in-None-find : goal.returns-in-None-find
returns-in-None-find c loops line = rw c.in-Some.is (acts_no_step c.args.scope.now loops line c.args.step _ _ c.in-None-find.ensures)

pub returns-in-Some-find : goal.returns-in-Some-find
returns-in-Some-find c loops line = rw c.in-Some.is (acts_step c.args.scope.now loops line c.args.step _ (seen c.in-Some-find.found.thing) c.in-Some-find.found.numbers c.in-Some-find.ensures)
