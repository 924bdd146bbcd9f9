use Rattle.tdf_sim_runs.proofs.Dues.{next_is}
use Rattle.tdf_sim_runs.proofs.laws.law_next.Goals as goal

pub returns : goal.returns
returns c = λ model flat w e left from stop time of now ready within next. next_is model flat w e left of now from stop time ready next within
