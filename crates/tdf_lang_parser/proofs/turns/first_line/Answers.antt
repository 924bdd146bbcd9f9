use Rattle.std.proofs.Common.{◌∙◌, ap, map, refl, sym}
use Rattle.std.proofs.lemmas.Result.{IfOk-weaker}
use Rattle.tdf_lang_lines.specs.FormViews.{pure_form}
use Rattle.tdf_lang_parser.specs.declared.places.Turn.{Turn}
use Rattle.tdf_lang_parser.specs.machine.Places.{OwnProcess}
use Rattle.tdf_lang_parser.specs.views.PlaceViews.{body_turn, ended_de, shown_de, shown_frames}
use Rattle.tdf_lang_tree.specs.Views.{pure_de, pure_process, pure_stmt}
use Rattle.tdf_lang_parser.proofs.OtherForms.{body_begins}
use Rattle.tdf_lang_parser.proofs.turns.first_line.Goals as goal

pub returns-in-Ok-Stays : goal.returns-in-Ok-Stays
returns-in-Ok-Stays c o =
    let own = OwnProcess o (pure_de c.args.block.now) (pure_process c.args.process) in
    ap (shown_de o (pure_de c.args.block.now)) c.replace.ensures.after
    ∙ ap (λ (t : Turn). body_turn t own c.args.line (shown_frames c.goes_body.new.frames.items) (map pure_stmt c.goes_body.new.list.items)) (sym c.in-Ok-Stays.field-0-is)
    ∙ c.in-Ok-Stays.ensures own refl
    ∙ body_begins own c.new-frames.result.items c.new-list.result.items c.args.line (pure_form c.args.form) c.new-frames.ensures.items c.new-list.ensures.items

pub returns-in-Ok-Ends : goal.returns-in-Ok-Ends
returns-in-Ok-Ends c o =
    let own = OwnProcess o (pure_de c.args.block.now) (pure_process c.args.process) in
    IfOk-weaker c.end_process.result _ _
    (λ u e. e ∙ ap (ended_de o (pure_de c.args.block.now) c.args.line) c.replace-in-Ok-Ends.ensures.after
    ∙ ap (λ (t : Turn). body_turn t own c.args.line (shown_frames c.goes_body.new.frames.items) (map pure_stmt c.goes_body.new.list.items)) (sym c.in-Ok-Ends.field-0-is)
    ∙ c.in-Ok-Ends.ensures own refl
    ∙ body_begins own c.new-frames.result.items c.new-list.result.items c.args.line (pure_form c.args.form) c.new-frames.ensures.items c.new-list.ensures.items)
    (c.end_process.ensures o)

pub returns-in-Ok-Lost : goal.returns-in-Ok-Lost
returns-in-Ok-Lost c o =
    let own = OwnProcess o (pure_de c.args.block.now) (pure_process c.args.process) in
    ap (λ (t : Turn). body_turn t own c.args.line (shown_frames c.goes_body.new.frames.items) (map pure_stmt c.goes_body.new.list.items)) (sym c.in-Ok-Lost.field-0-is)
    ∙ c.in-Ok-Lost.ensures own refl
    ∙ body_begins own c.new-frames.result.items c.new-list.result.items c.args.line (pure_form c.args.form) c.new-frames.ensures.items c.new-list.ensures.items
