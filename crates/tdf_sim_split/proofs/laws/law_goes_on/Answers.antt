use Rattle.tdf_sim_split.proofs.Split.{history_goes_on}
use Rattle.tdf_sim_split.proofs.laws.law_goes_on.Goals as goal

pub returns : goal.returns
returns c = history_goes_on c.law_onward.ensures.table c.law_onward.ensures.on c.law_enough.ensures c.law_edges.ensures.sinks
