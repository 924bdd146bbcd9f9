use Rattle.tdf_schedule.proofs.Sames.{one_plan, one_bound}
use Rattle.tdf_schedule.proofs.laws.law_plans.Goals as goal

pub returns-clause-plans : goal.returns-clause-plans
returns-clause-plans c edges pace counts one other one_is other_is = one_plan edges pace counts one other one_is other_is

pub returns-clause-bounds : goal.returns-clause-bounds
returns-clause-bounds c entries e one other one_is other_is = one_bound entries e one other one_is other_is
