use Rattle.tdf_stim_process.proofs.Times.{times_rise}
use Rattle.tdf_stim_process.proofs.laws.law_times_rise.Goals as goal

pub returns : goal.returns
returns c = times_rise
