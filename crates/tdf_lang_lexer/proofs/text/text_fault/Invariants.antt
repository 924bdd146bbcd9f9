use Rattle.std.proofs.Common.{length, ◌≡◌, ◌≤◌, ◌+◌}
use Rattle.tdf_lang_lexer.specs.Text.{first_fault, lines_of}
use Rattle.tdf_lang_lexer.proofs.text.text_fault.Given as goal

abbrev pub invariant-loop-rest : goal.invariant-loop-rest
invariant-loop-rest l = record {
  fault : first_fault l.number (lines_of l.rest) ≡ first_fault 1 (lines_of l.text);
  within : l.number + length l.rest ≤ length l.text + 1;
}

abbrev pub decreases-loop-rest : goal.decreases-loop-rest
decreases-loop-rest l = length l.rest
