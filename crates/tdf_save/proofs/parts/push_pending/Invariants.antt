use Rattle.std.proofs.Common.{◌≡◌, ◌++◌, map, ℕ, Vec, Global}
use Rattle.tdf_save.specs.Text.{saved_pending}
use Rattle.tdf_save.proofs.Each.{items_before}
use Rattle.tdf_save.proofs.parts.push_pending.Given as goal

abbrev pub invariant-loop-k : goal.invariant-loop-k
invariant-loop-k l = l.out.items ≡ l.initial.out.items ++ items_before (saved_pending (map (λ (z : Vec ℕ Global). z.items) l.events)) l.pending l.k
