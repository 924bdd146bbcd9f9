use Rattle.std.proofs.Common.{◌≡◌, ◌++◌}
use Rattle.tdf_save.specs.Text.{saved_sample}
use Rattle.tdf_save.proofs.Each.{items_before}
use Rattle.tdf_save.proofs.columns.push_samples.Given as goal

abbrev pub invariant-loop-k : goal.invariant-loop-k
invariant-loop-k l = l.out.items ≡ l.initial.out.items ++ items_before saved_sample l.stamps l.k
