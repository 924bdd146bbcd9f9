use Rattle.std.proofs.Common.{◌≡◌, length}
use Rattle.tdf_sampling.proofs.groups.new_columns.Given as goal

abbrev pub invariant-loop-made : goal.invariant-loop-made
invariant-loop-made l = length l.columns.items ≡ l._made
