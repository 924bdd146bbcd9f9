use Rattle.tdf_sim_instants.proofs.Whole.{instant_ends, instant_goes, instant_stops}
use Rattle.tdf_sim_instants.proofs.laws.law_instant.Goals as goal

pub returns-clause-along : goal.returns-clause-along
returns-clause-along c = instant_goes c.law_by_offset.ensures

pub returns-clause-spent : goal.returns-clause-spent
returns-clause-spent c = instant_ends c.law_by_offset.ensures

pub returns-clause-stopped : goal.returns-clause-stopped
returns-clause-stopped c = instant_stops c.law_by_offset.ensures
