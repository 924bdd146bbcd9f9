use Rattle.tdf_sim_history.proofs.Idle.{idle_stays_on}
use Rattle.tdf_sim_history.proofs.laws.law_idle.Goals as goal

pub returns : goal.returns
returns c = idle_stays_on
