use Rattle.tdf_sim_runs.proofs.Waiting.{runs_to_next}
use Rattle.tdf_sim_runs.proofs.laws.law_waiting.Goals as goal

pub returns : goal.returns
returns c = runs_to_next
