use Rattle.std.proofs.Common.{ℤ, Vec, Global, map}
use Rattle.tdf_save.specs.Text.{saved_block}
use Rattle.tdf_save.specs.machine.Pieces.{Any}
use Rattle.tdf_save_reading.proofs.ReadSteps.{HasEach}
use Rattle.tdf_save_reading.proofs.ValueSteps.{BlockFits}
use Rattle.tdf_save_reading.proofs.values.read_blocks.Given as goal

abbrev pub invariant-loop-k : goal.invariant-loop-k
invariant-loop-k l = HasEach saved_block BlockFits Any l.members l.text l.k (map (λ (z : Vec ℤ Global). z.items) l.list.items) l.rest
