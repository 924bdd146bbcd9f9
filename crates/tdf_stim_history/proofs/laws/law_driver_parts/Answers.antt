use Rattle.tdf_stim_history.proofs.Parts.{drives_on}
use Rattle.tdf_stim_history.proofs.laws.law_driver_parts.Goals as goal

pub returns : goal.returns
returns c = drives_on
