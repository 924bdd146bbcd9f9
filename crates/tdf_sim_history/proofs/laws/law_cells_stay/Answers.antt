use Rattle.tdf_sim_history.proofs.Staying.{cells_stay}
use Rattle.tdf_sim_history.proofs.laws.law_cells_stay.Goals as goal

pub returns : goal.returns
returns c = cells_stay
