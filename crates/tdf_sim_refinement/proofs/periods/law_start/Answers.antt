use Rattle.tdf_sim_refinement.proofs.Beginning.{starts_are_at}
use Rattle.tdf_sim_refinement.proofs.Starting.{all_starts_are_at}
use Rattle.tdf_sim_refinement.proofs.periods.law_start.Goals as goal

pub returns-clause-at : goal.returns-clause-at
returns-clause-at c = starts_are_at

pub returns-clause-all : goal.returns-clause-all
returns-clause-all c = all_starts_are_at
