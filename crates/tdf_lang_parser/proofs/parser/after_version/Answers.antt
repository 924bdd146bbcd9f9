use Rattle.std.proofs.Common.{◌∙◌, ◌+◌, length, sym}
use Rattle.tdf_lang_lexer.specs.Text.{lines_of}
use Rattle.tdf_lang_parser.specs.views.RowViews.{rows_left}
use Rattle.tdf_lang_parser.proofs.HeadLaws.{no_resolution_says, read_after_version}
use Rattle.tdf_lang_parser.proofs.parser.after_version.Goals as goal

pub returns-in-None : goal.returns-in-None
returns-in-None c = λ h d.
    read_after_version h (rows_left c.args.rows.now) c.args.version c.read_model.result (length (lines_of c.args.text.now) + 1) d
    (no_resolution_says c.args.version (rows_left c.args.rows.now) (sym c.resolution_line.ensures ∙ c.in-None.is)) c.read_model.ensures
