use Rattle.std.proofs.Common.{◌≡◌, ◌++◌}
use Rattle.tdf_save.proofs.WordLists.{words_before}
use Rattle.tdf_save.proofs.words.push_numbers.Given as goal

abbrev pub invariant-loop-k : goal.invariant-loop-k
invariant-loop-k g l = l.out.items ≡ l.initial.out.items ++ words_before g.N.Integer.text l.numbers l.k
