use Rattle.std.proofs.Common.{length, ◌≡◌, ◌≤◌, ◌-◌, ◌++◌, map}
use Rattle.tdf_lang_lexer.specs.machine.Pieces.{pieces_left}
use Rattle.tdf_lang_lexer.proofs.pieces.push_pieces.Given as goal

abbrev pub invariant-loop-at : goal.invariant-loop-at
invariant-loop-at l = record {
  begun : l.from ≤ l.at;
  within : l.at ≤ length l.code;
  same : map (λ p. p.now) l.list.items ++ pieces_left l.code l.from l.at ≡ map (λ p. p.now) l.initial.list.items ++ pieces_left l.code 0 0;
}

abbrev pub decreases-loop-at : goal.decreases-loop-at
decreases-loop-at l = length l.code - l.at
