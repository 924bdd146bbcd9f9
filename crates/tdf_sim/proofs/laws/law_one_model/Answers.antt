use Rattle.tdf_sim.proofs.FirstFaults.{models_alike}
use Rattle.tdf_sim.proofs.laws.law_one_model.Goals as goal

pub returns : goal.returns
returns c = models_alike c.law_one_plan.ensures c.law_numbers.ensures c.law_plannable.ensures
