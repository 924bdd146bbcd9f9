use Rattle.tdf_expr_names.specs.Names.{name_faults}
use Rattle.tdf_expr_names.proofs.BlockFirsts.{passed}
use Rattle.tdf_expr_names.proofs.model.check_names.Goals as goal
use Rattle.tdf_lang_tree.specs.Views.{pure_tree}

pub returns-clause-ok : goal.returns-clause-ok
returns-clause-ok c = rw c.verdict.ensures (passed (name_faults (pure_tree c.args.tree.now)) c.in_ok-first_fault.field-0 c.in_ok-first_fault.ensures)
