use Rattle.tdf_sim_history.proofs.Staying.{marks_are_settled}
use Rattle.tdf_sim_history.proofs.laws.law_settled.Goals as goal

pub returns : goal.returns
returns c = marks_are_settled
