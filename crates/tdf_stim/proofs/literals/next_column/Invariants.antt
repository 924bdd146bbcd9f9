use Rattle.std.proofs.Common.{◌≡◌, ◌≤◌, ℕ, Bor, List, get_or, length, map, take, drop}
use Rattle.tdf_tables.specs.Words.{words_of}
use Rattle.tdf_stim.proofs.literals.next_column.Given as goal

abbrev pub invariant-loop-i : goal.invariant-loop-i
invariant-loop-i l = record {
  long : length l.cells.items ≡ length l.initial.cells.items;
  ahead : (k : ℕ) (d : Bor (List ℕ)) → l.i ≤ k → get_or l.cells.items k d ≡ get_or l.initial.cells.items k d;
  done : map (λ text. words_of text.now) (take l.i l.cells.items) ≡ map (drop 1) (map (λ text. words_of text.now) (take l.i l.initial.cells.items));
}
