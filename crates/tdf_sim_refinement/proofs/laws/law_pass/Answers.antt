use Rattle.tdf_sim_refinement.proofs.Passing.{pass_ends_spent, pass_goes_along}
use Rattle.tdf_sim_refinement.proofs.laws.law_pass.Goals as goal

pub returns-clause-along : goal.returns-clause-along
returns-clause-along c = pass_goes_along

pub returns-clause-spent : goal.returns-clause-spent
returns-clause-spent c = pass_ends_spent
