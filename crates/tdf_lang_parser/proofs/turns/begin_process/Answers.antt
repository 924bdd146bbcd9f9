use Rattle.std.proofs.Common.{◌∙◌, ap, sym}
use Rattle.std.proofs.lemmas.Result.{IfOk-weaker}
use Rattle.tdf_lang_lines.specs.FormViews.{pure_form}
use Rattle.tdf_lang_parser.specs.declared.places.InDe.{InDe}
use Rattle.tdf_lang_parser.specs.views.PlaceViews.{begun_de}
use Rattle.tdf_lang_tree.specs.Views.{pure_de}
use Rattle.tdf_lang_parser.proofs.OtherForms.{begun_other}
use Rattle.tdf_lang_parser.proofs.turns.begin_process.Goals as goal

pub returns-in_default : goal.returns-in_default
returns-in_default c o =
    let d = pure_de c.args.block.now in
    IfOk-weaker c.first_line.result _ _
    (λ t e. e ∙ sym (begun_other o d c.in-Process.process c.args.line c.args.form c.in_default.not-DontInitialize)
    ∙ ap (λ (w : InDe). begun_de o d w c.args.line (pure_form c.args.form)) (sym c.in-Process.is ∙ c.replace.ensures.value)) (c.first_line.ensures o)
