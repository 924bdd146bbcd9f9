use Rattle.std.proofs.Common.{map}
use Rattle.std.proofs.lemmas.Result.{IfOk-weaker}
use Rattle.tdf_lang_lexer.specs.Token.{tok}
use Rattle.tdf_lang_exprs.proofs.Decided.{lits_vec_decided}
use Rattle.tdf_lang_exprs.proofs.literals.read_lits.Goals as goal

pub returns-clause-said : goal.returns-clause-said
returns-clause-said c = IfOk-weaker c.literals.result _ _ (λ o is. lits_vec_decided (map tok c.args.tokens.now) o is) c.literals.ensures
