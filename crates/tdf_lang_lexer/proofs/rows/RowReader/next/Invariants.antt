use Rattle.std.proofs.Common.{[], length, map, ◌≡◌, ◌≤◌, ◌+◌}
use Rattle.tdf_base.specs.Limits.{longest_text}
use Rattle.tdf_lang_lexer.specs.Rows.{rows_from}
use Rattle.tdf_lang_lexer.specs.Text.{lines_of}
use Rattle.tdf_lang_lexer.proofs.rows.RowReader.next.Given as goal

abbrev pub invariant-loop-self : goal.invariant-loop-self
invariant-loop-self l = record {
  none : map (λ p. p.now) l.pieces.items ≡ [];
  within : l.self-inside.number + length l.self-inside.rest.now ≤ longest_text + 1;
  rows : rows_from l.self-inside.number (lines_of l.self-inside.rest.now) ≡ rows_from l.initial.self-inside.number (lines_of l.initial.self-inside.rest.now);
}

abbrev pub decreases-loop-self : goal.decreases-loop-self
decreases-loop-self l = length l.self-inside.rest.now
