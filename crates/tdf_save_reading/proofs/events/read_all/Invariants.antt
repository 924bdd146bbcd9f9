use Rattle.std.proofs.Common.{ℕ, Vec, Global, map, length}
use Rattle.tdf_save.specs.Text.{saved_pending}
use Rattle.tdf_save.specs.machine.Pieces.{IsNext}
use Rattle.tdf_save_reading.proofs.ReadSteps.{HasRead}
use Rattle.tdf_save_reading.specs.machine.Events.{IsNotice}
use Rattle.tdf_save_reading.proofs.events.read_all.Given as goal

abbrev pub invariant-loop-rest : goal.invariant-loop-rest
invariant-loop-rest l = HasRead (saved_pending (map (λ (z : Vec ℕ Global). z.items) l.names)) (IsNotice (map (λ (z : Vec ℕ Global). z.items) l.names)) IsNext l.text l.list.items l.rest

abbrev pub decreases-loop-rest : goal.decreases-loop-rest
decreases-loop-rest l = length l.rest
