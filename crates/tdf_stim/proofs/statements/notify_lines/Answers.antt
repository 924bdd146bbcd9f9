use Rattle.std.proofs.Common.{◌∙◌, ◌++◌, ◌∷◌, [], ap, map}
use Rattle.std.proofs.lemmas.List.{map_push}
use Rattle.tdf_lang_tree.specs.Views.{pure_stmt}
use Rattle.tdf_stim.proofs.ColumnLists.{notifies_next}
use Rattle.tdf_stim.specs.Driver.{notify, notify_lines}
use Rattle.tdf_stim.proofs.statements.notify_lines.Goals as goal

pub loop-i-init : goal.loop-i-init
unfolding notify_lines
loop-i-init c = ap (map pure_stmt) c.new-list.ensures.items

pub loop-i-preserved : goal.loop-i-preserved
loop-i-preserved c =
    ap (map pure_stmt) c.in_ok-push.ensures.items ∙ map_push pure_stmt c.loop-i.list.items c.in_ok-notify.field-0
    ∙ ap (λ l. l ++ pure_stmt c.in_ok-notify.field-0 ∷ []) c.loop-i.invariant
    ∙ notifies_next c.args.times.now c.loop-i.i _ (pure_stmt c.in_ok-notify.field-0) c.loop-i-test.true c.in_ok-notify.ensures
