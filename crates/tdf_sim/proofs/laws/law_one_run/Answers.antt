use Rattle.tdf_sim.proofs.Writing.{answers_run_alike, runs_alike}
use Rattle.tdf_sim.proofs.laws.law_one_run.Goals as goal

pub returns-clause-models : goal.returns-clause-models
returns-clause-models c = runs_alike c.law_one_model.ensures c.law_alike.ensures

pub returns-clause-answers : goal.returns-clause-answers
returns-clause-answers c = answers_run_alike c.law_limits.ensures c.law_numbers.ensures c.law_plannable.ensures c.law_answers.ensures
