use Rattle.std.proofs.Common.{ℕ, ℤ, Vec, Global, map}
use Rattle.std.specs.List.{AllByRecursion}
use Rattle.tdf_save_reading.proofs.ReadSteps.{HasEach}
use Rattle.tdf_save.specs.Members.{IsNum}
use Rattle.tdf_save.specs.Text.{saved_edge}
use Rattle.tdf_save.specs.machine.Pieces.{Any}
use Rattle.tdf_save_reading.proofs.modules.read_edges.Given as goal

abbrev pub invariant-loop-k : goal.invariant-loop-k
invariant-loop-k l = HasEach saved_edge (λ path nums. AllByRecursion IsNum nums) Any (map (λ (z : Vec ℕ Global). z.items) l.paths) l.text l.k (map (λ (z : Vec ℤ Global). z.items) l.list.items) l.rest
