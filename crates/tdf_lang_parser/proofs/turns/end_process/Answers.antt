use Rattle.std.proofs.Common.{◌∙◌, ap, sym}
use Rattle.tdf_lang_parser.specs.machine.Places.{OwnProcess, finished}
use Rattle.tdf_lang_parser.specs.views.PlaceViews.{ended_de, shown_de}
use Rattle.tdf_lang_tree.specs.Views.{pure_de, pure_process}
use Rattle.tdf_lang_parser.proofs.turns.end_process.Goals as goal

pub returns-in-Ok : goal.returns-in-Ok
returns-in-Ok c o =
    let d = pure_de c.args.block.now in
    ap (shown_de o (pure_de c.add_process.new.block)) c.replace.ensures.after
    ∙ sym (c.in-Ok.ensures o)
    ∙ ap (finished (OwnProcess o d (pure_process c.in-Body.process))) c.body_of.ensures
    ∙ ap (ended_de o d c.args.line) (sym c.in-Body.is ∙ c.replace.ensures.value)
