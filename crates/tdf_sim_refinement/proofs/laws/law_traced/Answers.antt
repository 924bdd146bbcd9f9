use Rattle.tdf_sim_refinement.proofs.Passes.{pass_traces}
use Rattle.tdf_sim_refinement.proofs.laws.law_traced.Goals as goal

pub returns : goal.returns
returns c = pass_traces c.law_one_port.ensures
