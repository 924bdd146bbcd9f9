use Rattle.tdf_sim_refinement.proofs.Settled.{settled_inputs}
use Rattle.tdf_sim_refinement.proofs.laws.law_settled.Goals as goal

pub returns : goal.returns
returns c = settled_inputs
