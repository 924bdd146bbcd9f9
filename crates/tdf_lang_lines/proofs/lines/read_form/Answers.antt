use Rattle.std.proofs.Common.{map}
use Rattle.std.proofs.lemmas.Result.{IfOk-weaker}
use Rattle.tdf_lang_lexer.specs.Token.{tok}
use Rattle.tdf_lang_lines.proofs.Decided.{form_decided}
use Rattle.tdf_lang_lines.proofs.lines.read_form.Goals as goal

pub returns-clause-spelled : goal.returns-clause-spelled
returns-clause-spelled c = IfOk-weaker c.form.result _ _ (λ o is. form_decided c.args.version (map tok c.args.tokens.now) o is) c.form.ensures
