use Rattle.tdf_sim_runs.proofs.Below.{shown_stands_below}
use Rattle.tdf_sim_runs.proofs.standing.law_standing.Goals as goal

pub returns : goal.returns
returns c = shown_stands_below
