use Rattle.tdf_sim_history.proofs.Once.{answers_tell_one}
use Rattle.tdf_sim_history.proofs.laws.law_one_history.Goals as goal

pub returns : goal.returns
returns c = answers_tell_one c.law_one_answer.ensures
