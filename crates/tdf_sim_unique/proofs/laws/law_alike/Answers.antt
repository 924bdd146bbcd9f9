use Rattle.tdf_sim_unique.proofs.Runs.{runs_write_the_same}
use Rattle.tdf_sim_unique.proofs.laws.law_alike.Goals as goal

pub returns : goal.returns
returns c = runs_write_the_same
