use Rattle.std.proofs.Common.{◌∙◌, ℕ, ◌-◌, List, [], ◌∷◌, ◌++◌, ap, arith, map}
use Rattle.std.specs.List.{range_with_len}
use Rattle.tdf_lang_tree.specs.declared.blocks.Sense.{Sense}
use Rattle.tdf_stim.proofs.ColumnLists.{events_next}
use Rattle.tdf_stim.specs.Driver.{event_sense}
use Rattle.tdf_stim.proofs.driver.senses.Goals as goal

pub loop-number-preserved : goal.loop-number-preserved
loop-number-preserved c =
    let n = c.loop-number.number in
    let sense : List ℕ → Sense = λ name. record { line = 0; name = name } in
    c.in_ok-push.ensures.items ∙ ap (λ l. l ++ sense c.in_ok-name_with.field-0 ∷ []) c.loop-number.invariant
    ∙ ap (λ name. map event_sense (range_with_len 1 (n - 1)) ++ sense name ∷ []) c.in_ok-name_with.ensures
    ∙ events_next event_sense n [] (omega arith)
