use Rattle.std.proofs.Common.{length, ◌≡◌, ◌≤◌, ◌+◌}
use Rattle.tdf_lang_lexer.specs.Text.{lines_of}
use Rattle.tdf_lang_lexer.proofs.text.line_count.Given as goal

abbrev pub invariant-loop-rest : goal.invariant-loop-rest
invariant-loop-rest l = record {
  lines : l.count + length (lines_of l.rest) ≡ length (lines_of l.text);
  within : l.count + length l.rest ≤ length l.text;
}

abbrev pub decreases-loop-rest : goal.decreases-loop-rest
decreases-loop-rest l = length l.rest
