use Rattle.tdf_sim_resumed.proofs.Saved.{clusters_are_saved}
use Rattle.tdf_sim_resumed.proofs.laws.law_saved.Goals as goal

pub returns : goal.returns
returns c = clusters_are_saved c.law_own.ensures
