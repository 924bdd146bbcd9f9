use Rattle.tdf_sim_history.proofs.Unchanged.{unchanged_stay}
use Rattle.tdf_sim_history.proofs.laws.law_unchanged.Goals as goal

pub returns : goal.returns
returns c = unchanged_stay
