use Rattle.std.proofs.Common.{◌∙◌, ap, sym}
use Rattle.std.proofs.lemmas.Result.{IfOk-weaker}
use Rattle.tdf_lang_lines.specs.FormViews.{pure_form}
use Rattle.tdf_lang_parser.specs.declared.places.InDe.{InDe}
use Rattle.tdf_lang_parser.specs.machine.Places.{goes}
use Rattle.tdf_lang_parser.specs.views.PlaceViews.{shown_de}
use Rattle.tdf_lang_tree.specs.Views.{pure_de}
use Rattle.tdf_lang_parser.proofs.OtherForms.{process_begins}
use Rattle.tdf_lang_parser.proofs.turns.goes_de.Goals as goal

pub returns-in_default : goal.returns-in_default
returns-in_default c o =
    let d = pure_de c.args.block.now in
    let f = pure_form c.args.form in
    IfOk-weaker c.begin_process.result _ _
    (λ t e. e ∙ sym (process_begins o d c.in-Process.process c.args.line c.args.form c.in_default.not-Sensitive)
    ∙ ap (λ (w : InDe). goes (shown_de o d w) c.args.line f) (sym c.in-Process.is)) (c.begin_process.ensures o)
