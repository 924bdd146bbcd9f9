use Rattle.tdf_sim.proofs.FirstFaults.{faults_are_one, fault_or_accepted}
use Rattle.tdf_sim.proofs.laws.law_first_fault.Goals as goal

pub returns-clause-one : goal.returns-clause-one
returns-clause-one c = faults_are_one c.law_one_plan.ensures c.law_numbers.ensures c.law_plannable.ensures

pub returns-clause-apart : goal.returns-clause-apart
returns-clause-apart c = fault_or_accepted c.law_one_plan.ensures c.law_numbers.ensures c.law_plannable.ensures
