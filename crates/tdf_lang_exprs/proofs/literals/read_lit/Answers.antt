use Rattle.std.proofs.Common.{map}
use Rattle.std.proofs.lemmas.Result.{IfOk-weaker}
use Rattle.tdf_lang_lexer.specs.Token.{tok}
use Rattle.tdf_lang_exprs.proofs.Decided.{lit_decided}
use Rattle.tdf_lang_exprs.proofs.literals.read_lit.Goals as goal

pub returns-clause-said : goal.returns-clause-said
returns-clause-said c = IfOk-weaker c.literal.result _ _ (λ o is. lit_decided (map tok c.args.tokens.now) o is) c.literal.ensures
