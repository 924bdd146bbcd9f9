use Rattle.tdf_dynamic_first.proofs.Firsts.{clusters_have_one}
use Rattle.tdf_dynamic_first.proofs.laws.law_one_plan.Goals as goal

pub returns : goal.returns
returns c = clusters_have_one c.law_counts.ensures.apart c.law_counts.ensures.unique c.law_plans.ensures.plans c.law_plans.ensures.bounds
