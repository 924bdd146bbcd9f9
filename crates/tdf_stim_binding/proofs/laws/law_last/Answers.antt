use Rattle.tdf_stim_binding.proofs.Meeting.{driver_is_last}
use Rattle.tdf_stim_binding.proofs.laws.law_last.Goals as goal

pub returns : goal.returns
returns c = driver_is_last
