use Rattle.tdf_sim_refinement.proofs.Along.{few_is_spent, fired_goes_along}
use Rattle.tdf_sim_refinement.proofs.laws.law_along.Goals as goal

pub returns-clause-fired : goal.returns-clause-fired
returns-clause-fired c = fired_goes_along

pub returns-clause-few : goal.returns-clause-few
returns-clause-few c = few_is_spent
