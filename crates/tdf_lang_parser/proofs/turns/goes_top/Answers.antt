use Rattle.std.proofs.Common.{◌∙◌, ap, sym}
use Rattle.std.proofs.lemmas.Result.{IfOk-weaker}
use Rattle.tdf_lang_parser.specs.machine.Places.{more_top}
use Rattle.tdf_lang_tree.specs.Views.{pure_composite}
use Rattle.tdf_lang_parser.proofs.OtherForms.{top_other}
use Rattle.tdf_lang_parser.proofs.turns.goes_top.Goals as goal

pub returns-in_default : goal.returns-in_default
returns-in_default c o =
    let block = pure_composite c.args.block.now in
    IfOk-weaker c.more_net.result _ _
    (λ t e. e ∙ ap (more_top o block) c.member.ensures ∙ sym (top_other o block c.args.line c.args.form c.in_default.not-End)) (c.more_net.ensures.top o)
