use Rattle.tdf_sim.proofs.FirstFaults.{one_in_tree, tree_or_accepted}
use Rattle.tdf_sim.proofs.laws.law_tree_fault.Goals as goal

pub returns-clause-one : goal.returns-clause-one
returns-clause-one c = one_in_tree c.law_one_plan.ensures c.law_numbers.ensures c.law_plannable.ensures

pub returns-clause-apart : goal.returns-clause-apart
returns-clause-apart c = tree_or_accepted c.law_one_plan.ensures c.law_numbers.ensures c.law_plannable.ensures
