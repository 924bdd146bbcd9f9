use Rattle.tdf_sim_refinement.proofs.Emitted.{emitted_to}
use Rattle.tdf_sim_refinement.proofs.laws.law_emitted.Goals as goal

pub returns : goal.returns
returns c = emitted_to
