use Rattle.std.proofs.Common.{◌≡◌, vec_len}
use Rattle.tdf_lang_tree.specs.Views.{pure_expr}
use Rattle.tdf_lang_exprs.specs.machine.Exprs.{reduce}
use Rattle.tdf_lang_exprs.specs.views.Waiting.{waits}
use Rattle.tdf_lang_exprs.proofs.pending.reduce.Given as goal

abbrev pub decreases-loop-pending : goal.decreases-loop-pending
decreases-loop-pending l = vec_len l.stack

abbrev pub invariant-loop-pending : goal.invariant-loop-pending
invariant-loop-pending l = reduce l.fn.least (waits l.fn.stack.items) (pure_expr l.fn.tree) ≡ reduce l.least (waits l.stack.items) (pure_expr l.tree)
