use Rattle.std.proofs.Common.{◌+◌, length, map}
use Rattle.tdf_lang_lexer.specs.Text.{lines_of}
use Rattle.tdf_lang_parser.specs.views.RowViews.{rows_left}
use Rattle.tdf_lang_parser.proofs.WalkLaws.{read_resolved}
use Rattle.tdf_lang_parser.proofs.parser.after_resolution.Goals as goal

pub returns : goal.returns
returns c = λ h d.
    read_resolved h c.args.dialect c.args.rows.now.number (map (λ piece. piece.now) c.args.rows.now.pieces.items) c.args.rows.now.after (rows_left c.leave_first.new.rows) c.read_model.result
    (length (lines_of c.args.text.now) + 1) d c.requires.first c.in_ok-leave_first.ensures c.read_model.ensures
