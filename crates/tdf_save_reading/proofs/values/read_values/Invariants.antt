use Rattle.std.proofs.Common.{ℕ, Vec, Global, map}
use Rattle.tdf_save.specs.Text.{saved_value}
use Rattle.tdf_save.specs.machine.Pieces.{Any}
use Rattle.tdf_save_reading.proofs.ReadSteps.{HasEach}
use Rattle.tdf_save_reading.proofs.ValueSteps.{ValueFits}
use Rattle.tdf_save_reading.proofs.values.read_values.Given as goal

abbrev pub invariant-loop-k : goal.invariant-loop-k
invariant-loop-k l = HasEach saved_value ValueFits Any (map (λ (z : Vec ℕ Global). z.items) l.paths) l.text l.k l.list.items l.rest
