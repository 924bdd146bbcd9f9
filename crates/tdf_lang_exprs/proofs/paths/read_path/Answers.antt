use Rattle.std.proofs.Common.{map}
use Rattle.std.proofs.lemmas.Result.{IfOk-weaker}
use Rattle.tdf_lang_lexer.specs.Token.{tok}
use Rattle.tdf_lang_exprs.proofs.Decided.{path_vec_decided}
use Rattle.tdf_lang_exprs.proofs.paths.read_path.Goals as goal

pub returns-clause-said : goal.returns-clause-said
returns-clause-said c = IfOk-weaker c.names.result _ _ (λ o is. path_vec_decided (map tok c.args.tokens.now) o is) c.names.ensures
