use Rattle.std.proofs.Common.{length}
use Rattle.tdf_save.specs.Members.{IsStampInRange}
use Rattle.tdf_save.specs.Text.{saved_sample}
use Rattle.tdf_save_reading.proofs.ReadSteps.{HasRead}
use Rattle.tdf_save_reading.specs.machine.Pieces.{NoSample}
use Rattle.tdf_save_reading.proofs.columns.read_samples.Given as goal

abbrev pub invariant-loop-rest : goal.invariant-loop-rest
invariant-loop-rest l = HasRead saved_sample IsStampInRange NoSample l.text l.list.items l.rest

abbrev pub decreases-loop-rest : goal.decreases-loop-rest
decreases-loop-rest l = length l.rest
