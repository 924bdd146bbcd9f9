use Rattle.tdf_expr_blocks.specs.Types.{type_faults}
use Rattle.tdf_expr_blocks.proofs.Verdicts.{passed}
use Rattle.tdf_expr_blocks.proofs.types.check_types.Goals as goal
use Rattle.tdf_lang_tree.specs.Views.{pure_tree}

pub returns-clause-ok : goal.returns-clause-ok
returns-clause-ok c = rw c.verdict.ensures (passed (type_faults (pure_tree c.args.tree.now)) c.in_ok-first_fault.field-0 c.in_ok-first_fault.ensures)
