use Rattle.tdf_sim_history.proofs.Told.{more_is_told}
use Rattle.tdf_sim_history.proofs.laws.law_longer.Goals as goal

pub returns : goal.returns
returns c = more_is_told
