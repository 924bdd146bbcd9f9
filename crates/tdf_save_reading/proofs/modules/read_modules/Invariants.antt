use Rattle.tdf_save_reading.proofs.ReadSteps.{HasEach}
use Rattle.tdf_save.specs.Members.{IsModuleFor}
use Rattle.tdf_save.specs.Text.{saved_module}
use Rattle.tdf_save.specs.machine.Pieces.{Any}
use Rattle.tdf_save_reading.proofs.modules.read_modules.Given as goal

abbrev pub invariant-loop-k : goal.invariant-loop-k
invariant-loop-k l = HasEach saved_module IsModuleFor Any l.members l.text l.k l.list.items l.rest
