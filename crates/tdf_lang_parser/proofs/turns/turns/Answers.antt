use Rattle.std.proofs.Common.{◌∙◌, ap, sym}
use Rattle.std.proofs.lemmas.Result.{IfOk-weaker}
use Rattle.tdf_lang_lines.specs.FormViews.{pure_form}
use Rattle.tdf_lang_parser.specs.declared.places.Place.{Place}
use Rattle.tdf_lang_parser.specs.machine.Places.{goes}
use Rattle.tdf_lang_parser.specs.views.PlaceViews.{shown_outer, shown_place}
use Rattle.tdf_lang_parser.proofs.TurnLaws.{turn_in_tdf, turn_in_de, turn_in_net, turn_in_top}
use Rattle.tdf_lang_parser.proofs.turns.turns.Goals as goal

pub returns-in-Tdf : goal.returns-in-Tdf
returns-in-Tdf c =
    IfOk-weaker c.goes_tdf.result _ _
    (λ t e. turn_in_tdf t c.in-Tdf.field-0 c.goes_tdf.new.block c.goes_tdf.new.within ∙ e
    ∙ ap (λ (p : Place). goes (shown_place p) c.args.line (pure_form c.args.form)) (sym c.in-Tdf.is)) (c.goes_tdf.ensures (shown_outer c.in-Tdf.field-0))

pub returns-in-De : goal.returns-in-De
returns-in-De c =
    IfOk-weaker c.goes_de.result _ _
    (λ t e. turn_in_de t c.in-De.field-0 c.goes_de.new.block c.goes_de.new.within ∙ e
    ∙ ap (λ (p : Place). goes (shown_place p) c.args.line (pure_form c.args.form)) (sym c.in-De.is)) (c.goes_de.ensures (shown_outer c.in-De.field-0))

pub returns-in-Net : goal.returns-in-Net
returns-in-Net c =
    IfOk-weaker c.goes_net.result _ _
    (λ t e. turn_in_net t c.in-Net.field-0 c.goes_net.new.block ∙ e
    ∙ ap (λ (p : Place). goes (shown_place p) c.args.line (pure_form c.args.form)) (sym c.in-Net.is)) (c.goes_net.ensures (shown_outer c.in-Net.field-0))

pub returns-in-Top : goal.returns-in-Top
returns-in-Top c =
    IfOk-weaker c.goes_top.result _ _
    (λ t e. turn_in_top t c.in-Top.field-0 c.goes_top.new.block ∙ e
    ∙ ap (λ (p : Place). goes (shown_place p) c.args.line (pure_form c.args.form)) (sym c.in-Top.is)) (c.goes_top.ensures (shown_outer c.in-Top.field-0))
