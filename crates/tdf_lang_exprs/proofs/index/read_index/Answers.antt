use Rattle.std.proofs.Common.{map}
use Rattle.std.proofs.lemmas.Result.{IfOk-weaker}
use Rattle.tdf_lang_lexer.specs.Token.{tok}
use Rattle.tdf_lang_exprs.proofs.Decided.{index_decided}
use Rattle.tdf_lang_exprs.proofs.index.read_index.Goals as goal

pub returns-clause-said : goal.returns-clause-said
returns-clause-said c = IfOk-weaker c.indexed.result _ _ (λ o is. index_decided c.args.version (map tok c.args.tokens.now) o is) c.indexed.ensures
