use Rattle.tdf_sim_refinement.proofs.Answered.{answers_are_told}
use Rattle.tdf_sim_refinement.proofs.laws.law_answers.Goals as goal

pub returns : goal.returns
returns c = answers_are_told
