use Rattle.std.proofs.Common.{length}
use Rattle.tdf_save.specs.Members.{IsNum}
use Rattle.tdf_save.specs.Text.{saved_later}
use Rattle.tdf_save.specs.machine.Pieces.{IsNext}
use Rattle.tdf_save_reading.proofs.ReadSteps.{HasRead}
use Rattle.tdf_save_reading.proofs.columns.read_laters.Given as goal

abbrev pub invariant-loop-rest : goal.invariant-loop-rest
invariant-loop-rest l = HasRead saved_later IsNum IsNext l.text l.list.items l.rest

abbrev pub decreases-loop-rest : goal.decreases-loop-rest
decreases-loop-rest l = length l.rest
