use Rattle.tdf_sim_history.proofs.Tables.{agree_law}
use Rattle.tdf_sim_history.proofs.laws.law_agree.Goals as goal

pub returns : goal.returns
returns c = agree_law c.law_one_answer.ensures
