use Rattle.tdf_sim_laws.proofs.Times.{times_are_one}
use Rattle.tdf_sim_laws.proofs.laws.law_times.Goals as goal

pub returns : goal.returns
returns c = times_are_one
