use Rattle.std.proofs.Common.{◌∙◌, sym}
use Rattle.std.proofs.lemmas.Result.{IfOk-weaker}
use Rattle.tdf_lang_tree.specs.Views.{pure_tdf}
use Rattle.tdf_lang_parser.proofs.OtherForms.{initialize_other}
use Rattle.tdf_lang_parser.proofs.turns.goes_initialize.Goals as goal

pub returns-in_default : goal.returns-in_default
returns-in_default c o =
    IfOk-weaker c.first_initialize.result _ _
    (λ t e. e ∙ sym (initialize_other o (pure_tdf c.args.block.now) c.args.line c.args.form c.in_default.not-Initial)) (c.first_initialize.ensures o)
