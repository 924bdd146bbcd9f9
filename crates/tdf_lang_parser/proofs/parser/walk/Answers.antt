use Rattle.std.proofs.Common.{◌≡◌, ◌+◌, ◌∙◌, List, [], length, ap, sym}
use Rattle.tdf_lang_parser.proofs.WalkLaws.{none_left, walked_end}
use Rattle.tdf_lang_parser.proofs.parser.walk.Goals as goal
use Rattle.tdf_lang_parser.specs.machine.Places.{reads_rows, fault_from}
use Rattle.tdf_lang_parser.specs.views.PlaceViews.{shown_place}
use Rattle.tdf_lang_parser.specs.views.RowViews.{rows_left}
use Rattle.tdf_lang_lexer.specs.Dialect.{token_lines}
use Rattle.tdf_lang_lexer.specs.Text.{lines_of}
use Rattle.tdf_lang_lexer.specs.Token.{TokenLine}

pub returns : goal.returns
returns c =
    let after = length (lines_of c.args.text.now) + 1 in
    let none : token_lines c.args.dialect (rows_left c.loop-rows.rows) ≡ [] = ap (token_lines c.args.dialect) (none_left c.loop-rows.rows c.in_default.not-Some) in
    walked_end c.args.dialect c.ended.result (shown_place c.loop-rows.at) (token_lines c.args.dialect (rows_left c.args.rows.now)) after
    (ap (reads_rows c.args.dialect (shown_place c.loop-rows.at)) (sym none) ∙ c.loop-rows.invariant.reads)
    (ap (λ (rs : List TokenLine). fault_from c.args.dialect (shown_place c.loop-rows.at) rs after) (sym none) ∙ c.loop-rows.invariant.faults) c.ended.ensures
