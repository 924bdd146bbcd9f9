use Rattle.std.proofs.Common.{map, drop, take, length, ◌≡◌, ◌++◌}
use Rattle.tdf_lang_lexer.specs.Dialect.{token_of}
use Rattle.tdf_lang_lexer.specs.Token.{tok}
use Rattle.tdf_lang_lexer.proofs.dialect.push_each.Given as goal

abbrev pub invariant-loop-piece : goal.invariant-loop-piece
invariant-loop-piece l = record {
  tokens : map tok l.out.items ++ map (token_of l.dialect) (map (λ p. p.now) (drop l.piece-index l.pieces))
      ≡ map tok l.initial.out.items ++ map (token_of l.dialect) (map (λ p. p.now) l.pieces);
  kept : take (length l.initial.out.items) l.out.items ≡ l.initial.out.items;
}
