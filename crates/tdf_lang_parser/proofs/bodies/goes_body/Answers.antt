use Rattle.std.proofs.Common.{◌∙◌, ap, map, sym}
use Rattle.std.proofs.lemmas.Result.{IfOk-weaker}
use Rattle.tdf_lang_lines.specs.FormViews.{pure_form}
use Rattle.tdf_lang_parser.specs.Items.{BodyKind, stmt_of}
use Rattle.tdf_lang_parser.specs.views.PlaceViews.{shown_frames}
use Rattle.tdf_lang_parser.specs.machine.Places.{more_body}
use Rattle.tdf_lang_tree.specs.Views.{pure_stmt}
use Rattle.tdf_lang_parser.proofs.OtherForms.{body_other}
use Rattle.tdf_lang_parser.proofs.bodies.goes_body.Goals as goal

pub returns-in_default : goal.returns-in_default
returns-in_default c o same =
    let fs = shown_frames c.args.frames.now.items in
    let acc = map pure_stmt c.args.list.now.items in
    IfOk-weaker c.more_body.result _ _
    (λ t e. e ∙ ap (λ (k : BodyKind). more_body o fs acc (stmt_of k c.args.line (pure_form c.args.form))) (sym same)
    ∙ sym (body_other o fs acc c.args.line c.args.form c.in_default.not-If c.in_default.not-For c.in_default.not-Else c.in_default.not-End))
    (c.more_body.ensures o c.args.line fs)
