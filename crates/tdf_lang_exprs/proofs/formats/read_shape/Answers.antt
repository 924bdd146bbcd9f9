use Rattle.std.proofs.Common.{map}
use Rattle.tdf_lang_lexer.specs.Token.{tok}
use Rattle.tdf_lang_exprs.proofs.Decided.{shape_decided}
use Rattle.tdf_lang_exprs.proofs.formats.read_shape.Goals as goal

pub returns-clause-said : goal.returns-clause-said
returns-clause-said c = shape_decided (map tok c.args.tokens.now) c.shape.result c.shape.ensures
