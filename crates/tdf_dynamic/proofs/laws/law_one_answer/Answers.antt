use Rattle.tdf_dynamic.proofs.Once.{boundaries_have_one}
use Rattle.tdf_dynamic.proofs.laws.law_one_answer.Goals as goal

pub returns : goal.returns
returns c = boundaries_have_one c.law_counts.ensures.apart c.law_counts.ensures.unique c.law_plans.ensures.plans c.law_plans.ensures.bounds
