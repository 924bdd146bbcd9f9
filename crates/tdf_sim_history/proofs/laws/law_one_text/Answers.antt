use Rattle.tdf_sim_history.proofs.Texts.{answers_write_one}
use Rattle.tdf_sim_history.proofs.laws.law_one_text.Goals as goal

pub returns : goal.returns
returns c = answers_write_one c.law_one_answer.ensures
