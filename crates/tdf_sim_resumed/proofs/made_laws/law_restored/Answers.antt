use Rattle.tdf_sim_resumed.proofs.Standing.{all_there, stands_there, state_says}
use Rattle.tdf_sim_resumed.proofs.Plans.{plans_theirs, plans_there}
use Rattle.tdf_sim_resumed.proofs.made_laws.law_restored.Goals as goal

pub returns : goal.returns
returns c = record {
  start = state_says;
  one = stands_there;
  clusters = all_there;
  plans = plans_there;
  theirs = plans_theirs c.law_counts.ensures.apart c.law_counts.ensures.unique c.law_plans.ensures.plans c.law_plans.ensures.bounds c.law_one_table.ensures c.law_numbers.ensures;
}
