use Rattle.std.proofs.Common.{◌≡◌, ◌∙◌, Some, ap, map, sym}
use Rattle.std.proofs.lemmas.Result.{IfOk-weaker}
use Rattle.tdf_lang_exprs.specs.machine.Formats.{format_of}
use Rattle.tdf_lang_lines.proofs.CutLaws.{valued_same}
use Rattle.tdf_lang_lines.proofs.stores.de_signal_form.Goals as goal
use Rattle.tdf_lang_lines.specs.machine.Reads.{cut_first, start_of}
use Rattle.tdf_lang_lexer.specs.Token.{tok}
use Rattle.tdf_lang_tree.specs.Forms.{FDeSignal}

pub returns-in-Ok-Some : goal.returns-in-Ok-Some
returns-in-Ok-Some c =
    let first : Some c.in-Ok-Some.format ≡ cut_first (map tok c.args.tokens.now) = sym c.in-Ok-Some.field-0-is ∙ c.in-Ok-Some.ensures.read ∙ ap format_of c.cut_format.ensures.first in
    IfOk-weaker c.de_signal_rest.result _ _ (λ o e. e ∙ valued_same FDeSignal _ _ _ _ _ _ c.in_ok-name.ensures first (ap start_of c.cut_format.ensures.rest)) c.de_signal_rest.ensures
