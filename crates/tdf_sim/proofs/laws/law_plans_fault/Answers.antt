use Rattle.tdf_sim.proofs.Clusters.{fault_once, fault_or_plans}
use Rattle.tdf_sim.proofs.Alike.{itself}
use Rattle.tdf_sim.proofs.laws.law_plans_fault.Goals as goal

pub returns-clause-one : goal.returns-clause-one
returns-clause-one c = λ flat one other can. fault_once c.law_one_plan.ensures c.law_numbers.ensures flat flat one other can can (itself flat)

pub returns-clause-apart : goal.returns-clause-apart
returns-clause-apart c = λ flat fault firsts can. fault_or_plans c.law_one_plan.ensures c.law_numbers.ensures flat flat fault firsts can can (itself flat)
