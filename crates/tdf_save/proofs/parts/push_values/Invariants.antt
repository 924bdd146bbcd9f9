use Rattle.std.proofs.Common.{◌≡◌, ◌++◌, map, ℕ, Vec, Global}
use Rattle.tdf_save.specs.Text.{saved_value}
use Rattle.tdf_save.proofs.Each.{each_before}
use Rattle.tdf_save.proofs.parts.push_values.Given as goal

abbrev pub invariant-loop-k : goal.invariant-loop-k
invariant-loop-k l = l.out.items ≡ l.initial.out.items ++ each_before saved_value (map (λ (z : Vec ℕ Global). z.items) l.paths) l.nums l.k
