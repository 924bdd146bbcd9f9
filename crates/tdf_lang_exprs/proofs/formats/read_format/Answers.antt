use Rattle.std.proofs.Common.{map}
use Rattle.std.proofs.lemmas.Result.{IfOk-weaker}
use Rattle.tdf_lang_lexer.specs.Token.{tok}
use Rattle.tdf_lang_exprs.proofs.Decided.{format_decided}
use Rattle.tdf_lang_exprs.proofs.formats.read_format.Goals as goal

pub returns-clause-said : goal.returns-clause-said
returns-clause-said c = IfOk-weaker c.format.result _ _ (λ o is. format_decided (map tok c.args.tokens.now) o is) c.format.ensures
