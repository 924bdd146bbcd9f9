use Rattle.tdf_stim.proofs.FreeNames.{names_least}
use Rattle.tdf_stim.proofs.laws.law_driver_name.Goals as goal

pub returns : goal.returns
returns c = names_least
