use Rattle.std.proofs.Common.{◌≡◌, ◌∙◌, true, ap, cond, rules, sym, Bool}
use Rattle.std.proofs.lemmas.Result.{IfOk-weaker}
use Rattle.tdf_lang_lines.specs.FormViews.{pure_form}
use Rattle.tdf_lang_parser.specs.Items.{de_line_of}
use Rattle.tdf_lang_parser.specs.declared.places.InDe.TheVariants as de
use Rattle.tdf_lang_parser.specs.machine.Places.{PLost, more_de}
use Rattle.tdf_lang_parser.specs.views.PlaceViews.{de_turn}
use Rattle.tdf_lang_tree.specs.Views.{pure_de}
use Rattle.tdf_lang_parser.proofs.OtherForms.{de_other}
use Rattle.tdf_lang_parser.proofs.turns.de_lines.Goals as goal

pub returns-else-not-declares : goal.returns-else-not-declares
returns-else-not-declares c o =
    let may : c.args.declares ≡ true = search rules in
    let d = pure_de c.args.block.now in
    IfOk-weaker c.more_de.result _ _
    (λ t e. ap (de_turn t o (pure_de c.more_de.new.block)) (c.requires ∙ ap de.Lines may) ∙ e
    ∙ ap (λ (b : Bool). cond b (more_de o d (de_line_of c.args.line (pure_form c.args.form))) PLost) (sym may)
    ∙ sym (de_other o c.args.declares d c.args.line c.args.form c.in_default.not-Process c.in_default.not-End)) (c.more_de.ensures o)
