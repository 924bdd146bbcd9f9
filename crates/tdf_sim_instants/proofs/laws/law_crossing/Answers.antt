use Rattle.tdf_sim_instants.proofs.Boundaries.{crossing_ends_spent, crossing_ends_stopped, crossing_goes_along}
use Rattle.tdf_sim_instants.proofs.laws.law_crossing.Goals as goal

pub returns-clause-along : goal.returns-clause-along
returns-clause-along c = crossing_goes_along

pub returns-clause-spent : goal.returns-clause-spent
returns-clause-spent c = crossing_ends_spent

pub returns-clause-stopped : goal.returns-clause-stopped
returns-clause-stopped c = crossing_ends_stopped
