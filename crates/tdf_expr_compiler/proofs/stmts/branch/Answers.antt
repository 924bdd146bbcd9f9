use Rattle.tdf_expr_compiler.proofs.Acting.{acts_if}
use Rattle.tdf_expr_compiler.proofs.stmts.branch.Goals as goal

pub returns-in-Ok-new : goal.returns-in-Ok-new
returns-in-Ok-new c scope loops line e ss ts test first second =
    rw (c.in-Ok.ensures.ok, c.in-Ok-new.ensures.ok, c.new-test.ensures) (acts_if scope loops line e ss ts _ _ c.args.test.node c.args.test.part c.args.first c.args.second test first second)
