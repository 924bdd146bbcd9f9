use Rattle.std.proofs.Common.{◌+◌, length}
use Rattle.tdf_lang_lexer.specs.Dialect.{token_lines}
use Rattle.tdf_lang_lexer.specs.Text.{lines_of}
use Rattle.tdf_lang_parser.specs.views.RowViews.{rows_left}
use Rattle.tdf_lang_parser.proofs.WalkLaws.{walked_read}
use Rattle.tdf_lang_parser.proofs.parser.read_model.Goals as goal

pub returns : goal.returns
returns c = walked_read c.args.dialect c.walk.result (token_lines c.args.dialect (rows_left c.args.rows.now)) (length (lines_of c.args.text.now) + 1) c.walk.ensures
