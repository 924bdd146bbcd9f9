use Rattle.tdf_stim_history.proofs.Histories.{history_drives}
use Rattle.tdf_stim_history.proofs.laws.law_driver_history.Goals as goal

pub returns : goal.returns
returns c = history_drives
