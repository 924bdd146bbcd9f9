use Rattle.std.proofs.Common.{◌≡◌, ◌++◌, map, ℕ, ℤ, Vec, Global}
use Rattle.tdf_save.specs.Text.{saved_edge}
use Rattle.tdf_save.proofs.Each.{each_before}
use Rattle.tdf_save.proofs.parts.push_edges.Given as goal

abbrev pub invariant-loop-k : goal.invariant-loop-k
invariant-loop-k l = l.out.items ≡ l.initial.out.items ++ each_before saved_edge (map (λ (z : Vec ℕ Global). z.items) l.paths) (map (λ (z : Vec ℤ Global). z.items) l.lists) l.k
