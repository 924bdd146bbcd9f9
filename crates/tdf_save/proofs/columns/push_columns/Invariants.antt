use Rattle.std.proofs.Common.{◌≡◌, ◌++◌, map, ℕ, Vec, Global}
use Rattle.tdf_save.specs.Text.{saved_column}
use Rattle.tdf_save.proofs.Each.{each_before}
use Rattle.tdf_save.proofs.columns.push_columns.Given as goal

abbrev pub invariant-loop-k : goal.invariant-loop-k
invariant-loop-k l = l.out.items ≡ l.initial.out.items ++ each_before saved_column (map (λ (z : Vec ℕ Global). z.items) l.labels) l.states l.k
