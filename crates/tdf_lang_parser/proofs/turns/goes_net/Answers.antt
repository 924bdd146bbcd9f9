use Rattle.std.proofs.Common.{◌∙◌, ap, sym}
use Rattle.std.proofs.lemmas.Result.{IfOk-weaker}
use Rattle.tdf_lang_parser.specs.machine.Places.{more_net}
use Rattle.tdf_lang_tree.specs.Views.{pure_composite}
use Rattle.tdf_lang_parser.proofs.OtherForms.{net_other}
use Rattle.tdf_lang_parser.proofs.turns.goes_net.Goals as goal

pub returns-in_default : goal.returns-in_default
returns-in_default c o =
    let block = pure_composite c.args.block.now in
    IfOk-weaker c.more_net.result _ _
    (λ t e. e ∙ ap (more_net o block) c.net_line.ensures ∙ sym (net_other o block c.args.line c.args.form c.in_default.not-End)) (c.more_net.ensures.net o)
