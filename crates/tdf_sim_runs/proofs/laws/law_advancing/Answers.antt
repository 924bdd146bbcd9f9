use Rattle.tdf_sim_runs.proofs.Advancing.{instant_advances}
use Rattle.tdf_sim_runs.proofs.laws.law_advancing.Goals as goal

pub returns : goal.returns
returns c = instant_advances c.law_one_port.ensures
