use Rattle.tdf_sim_runs.proofs.Told.{cells_stay_below}
use Rattle.tdf_sim_runs.proofs.laws.law_staying.Goals as goal

pub returns : goal.returns
returns c = cells_stay_below c.law_one_answer.ensures
