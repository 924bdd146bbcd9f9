use Rattle.std.proofs.Common.{◌≡◌, ◌++◌, map, ℤ, Vec, Global}
use Rattle.tdf_save.specs.Text.{saved_block}
use Rattle.tdf_save.proofs.Each.{each_before}
use Rattle.tdf_save.proofs.parts.push_blocks.Given as goal

abbrev pub invariant-loop-k : goal.invariant-loop-k
invariant-loop-k l = l.out.items ≡ l.initial.out.items ++ each_before saved_block l.members (map (λ (z : Vec ℤ Global). z.items) l.lists) l.k
