use Rattle.std.proofs.Common.{◌∙◌, ◌++◌, ◌∷◌, [], ap, map}
use Rattle.std.proofs.lemmas.List.{map_push}
use Rattle.std.specs.List.{range_with_len}
use Rattle.tdf_lang_tree.specs.Views.{pure_stmt}
use Rattle.tdf_stim.proofs.ColumnLists.{range_zero_next}
use Rattle.tdf_stim.specs.Driver.{assign}
use Rattle.tdf_stim.proofs.statements.assigns.Goals as goal

pub loop-number-preserved : goal.loop-number-preserved
loop-number-preserved c =
    ap (map pure_stmt) c.in_ok-push.ensures.items ∙ map_push pure_stmt c.loop-number.list.items c.in_ok-assign.field-0
    ∙ ap (λ l. l ++ pure_stmt c.in_ok-assign.field-0 ∷ []) c.loop-number.invariant
    ∙ ap (λ s. map assign (range_with_len 0 c.loop-number.number) ++ s ∷ []) c.in_ok-assign.ensures
    ∙ range_zero_next assign c.loop-number.number
