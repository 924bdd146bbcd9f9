use Rattle.tdf_sim_refinement.proofs.Inside.{entries_inside}
use Rattle.tdf_sim_refinement.proofs.Lasting.{takes_time}
use Rattle.tdf_sim_refinement.proofs.laws.law_offsets.Goals as goal

pub returns-clause-inside : goal.returns-clause-inside
returns-clause-inside c = entries_inside

pub returns-clause-time : goal.returns-clause-time
returns-clause-time c = takes_time
