use Rattle.std.proofs.Common.{◌≡◌, ◌≤◌, ◌∙◌, ap, sym, arith}
use Rattle.std.proofs.lemmas.Result.{IfOk-weaker}
use Rattle.tdf_lang_parser.specs.declared.places.InTdf.TheVariants as tdf
use Rattle.tdf_lang_parser.specs.views.PlaceViews.{tdf_turn}
use Rattle.tdf_lang_tree.specs.Views.{pure_tdf}
use Rattle.tdf_lang_parser.proofs.OtherForms.{tdf_first}
use Rattle.tdf_lang_parser.proofs.turns.tdf_lines.Goals as goal

pub returns-else-parts-gt0 : goal.returns-else-parts-gt0
returns-else-parts-gt0 c o =
    let first : c.args.parts ≤ 0 = omega arith in
    let none : c.args.parts ≡ 0 = omega arith in
    IfOk-weaker c.more_tdf.result _ _
    (λ t e. ap (tdf_turn t o (pure_tdf c.more_tdf.new.block)) (c.requires ∙ ap tdf.Lines none) ∙ e
    ∙ sym (tdf_first o c.args.parts (pure_tdf c.args.block.now) c.args.line c.args.form first c.in_default.not-SetAttributes c.in_default.not-Initialize
    c.in_default.not-Processing c.in_default.not-ChangeAttributes c.in_default.not-Reinitialize c.in_default.not-End)) (c.more_tdf.ensures o)
