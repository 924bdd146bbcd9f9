use Rattle.tdf_sim_resumed.proofs.One.{snapshot_is_one}
use Rattle.tdf_sim_resumed.proofs.laws.law_one_snapshot.Goals as goal

pub returns : goal.returns
returns c = snapshot_is_one
