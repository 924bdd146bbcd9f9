use Rattle.std.proofs.Common.{◌≡◌, ◌+◌, length}
use Rattle.tdf_lang_parser.specs.machine.Places.{PGlobals, fault_from, outset, reads_rows}
use Rattle.tdf_lang_parser.specs.views.PlaceViews.{shown_place}
use Rattle.tdf_lang_parser.specs.views.RowViews.{rows_left}
use Rattle.tdf_lang_parser.proofs.parser.walk.Given as goal
use Rattle.tdf_lang_lexer.specs.Dialect.{token_lines}
use Rattle.tdf_lang_lexer.specs.Text.{lines_of}

abbrev pub invariant-loop-rows : goal.invariant-loop-rows
invariant-loop-rows l = record {
  reads : reads_rows l.dialect (shown_place l.at) (token_lines l.dialect (rows_left l.rows)) ≡ reads_rows l.dialect (PGlobals (outset l.dialect)) (token_lines l.dialect (rows_left l.initial.rows));
  faults : fault_from l.dialect (shown_place l.at) (token_lines l.dialect (rows_left l.rows)) (length (lines_of l.text) + 1)
      ≡ fault_from l.dialect (PGlobals (outset l.dialect)) (token_lines l.dialect (rows_left l.initial.rows)) (length (lines_of l.text) + 1);
}

abbrev pub decreases-loop-rows : goal.decreases-loop-rows
decreases-loop-rows l = length (rows_left l.rows)
