use Rattle.std.proofs.Common.{◌≡◌, ◌++◌}
use Rattle.tdf_tables.proofs.Texts.{text_before}
use Rattle.tdf_tables.proofs.writing.push_rows.Given as goal

abbrev pub invariant-loop-k : goal.invariant-loop-k
invariant-loop-k l = l.out.items ≡ l.initial.out.items ++ text_before l.rows l.k
