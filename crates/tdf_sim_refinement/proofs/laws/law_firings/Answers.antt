use Rattle.tdf_sim_refinement.proofs.Due.{due_counted}
use Rattle.tdf_sim_refinement.proofs.Firings.{due_fire, few_end, none_fire}
use Rattle.tdf_sim_refinement.proofs.laws.law_firings.Goals as goal

pub returns-clause-due : goal.returns-clause-due
returns-clause-due c = λ model flat rules time n k h w here due enough. due_fire model flat rules time n h w here k due enough

pub returns-clause-few : goal.returns-clause-few
returns-clause-few c = λ model flat rules time n k h w here due few. few_end model flat rules time n h w here k due few

pub returns-clause-none : goal.returns-clause-none
returns-clause-none c = λ model flat rules time n h w here none. none_fire model flat rules time n h w here none

pub returns-clause-counted : goal.returns-clause-counted
returns-clause-counted c = due_counted
