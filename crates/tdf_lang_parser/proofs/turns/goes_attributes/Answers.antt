use Rattle.std.proofs.Common.{◌∙◌, ap, sym}
use Rattle.std.proofs.lemmas.Result.{IfOk-weaker}
use Rattle.tdf_lang_parser.specs.views.PlaceViews.{tdf_turn}
use Rattle.tdf_lang_tree.specs.Views.{pure_tdf}
use Rattle.tdf_lang_parser.proofs.OtherForms.{attributes_other}
use Rattle.tdf_lang_parser.proofs.turns.goes_attributes.Goals as goal

pub returns-in_default : goal.returns-in_default
returns-in_default c o =
    IfOk-weaker c.more_attributes.result _ _
    (λ t e. ap (tdf_turn t o (pure_tdf c.more_attributes.new.block)) c.requires ∙ e
    ∙ sym (attributes_other o (pure_tdf c.args.block.now) c.args.line c.args.form c.in_default.not-End)) (c.more_attributes.ensures o)
