use Rattle.tdf_sim_split.proofs.Parts.{runs_split}
use Rattle.tdf_sim_split.proofs.laws.law_parts.Goals as goal

pub returns : goal.returns
returns c = runs_split c.law_formats.ensures c.law_one_answer.ensures c.law_onward.ensures.table c.law_onward.ensures.on c.law_enough.ensures c.law_edges.ensures.sinks c.law_samples_there.ensures
