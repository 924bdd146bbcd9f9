use Rattle.std.proofs.Common.{map, length, ◌≡◌}
use Rattle.tdf_lang_lexer.specs.Words.{lookup}
use Rattle.tdf_lang_lexer.proofs.words.lookup.Given as goal

abbrev pub invariant-loop-table : goal.invariant-loop-table
invariant-loop-table l =
    lookup (map (λ e. (e.0.now, e.1)) l.table) l.text ≡ lookup (map (λ e. (e.0.now, e.1)) l.fn.table) l.fn.text

abbrev pub decreases-loop-table : goal.decreases-loop-table
decreases-loop-table l = length l.table
