use Rattle.tdf_sim_unique.proofs.Telling.{answers_write_alike}
use Rattle.tdf_sim_unique.proofs.laws.law_answers.Goals as goal

pub returns : goal.returns
returns c = answers_write_alike c.law_one_answer.ensures
