use Rattle.std.proofs.Common.{◌∙◌, ◌-◌, ◌++◌, ◌∷◌, [], ap, append-nil, arith, map, sym}
use Rattle.std.proofs.lemmas.List.{map_push}
use Rattle.std.specs.List.{range_with_len}
use Rattle.tdf_lang_tree.specs.Pure.{DEvent}
use Rattle.tdf_lang_tree.specs.Views.{pure_de_line}
use Rattle.tdf_stim.proofs.ColumnLists.{events_next}
use Rattle.tdf_stim.specs.Driver.{event_line}
use Rattle.tdf_stim.proofs.driver.push_events.Goals as goal

pub loop-number-init : goal.loop-number-init
loop-number-init c = sym (append-nil (map pure_de_line c.args.lines.now.items))

pub loop-number-preserved : goal.loop-number-preserved
loop-number-preserved c =
    ap (map pure_de_line) c.in_ok-push.ensures.items ∙ map_push pure_de_line c.loop-number.lines.items _
    ∙ ap (λ l. l ++ DEvent 0 c.in_ok-name_with.field-0 ∷ []) c.loop-number.invariant
    ∙ ap (λ n. (map pure_de_line c.args.lines.now.items ++ map event_line (range_with_len 1 (c.loop-number.number - 1))) ++ DEvent 0 n ∷ []) c.in_ok-name_with.ensures
    ∙ events_next event_line c.loop-number.number (map pure_de_line c.args.lines.now.items) (omega arith)
