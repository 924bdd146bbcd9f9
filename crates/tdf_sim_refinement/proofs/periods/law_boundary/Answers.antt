use Rattle.tdf_sim_refinement.proofs.Answering.{answers_lead}
use Rattle.tdf_sim_refinement.proofs.Crossing.{boundary_at}
use Rattle.tdf_sim_refinement.proofs.Renewing.{new_periods_are_whole}
use Rattle.tdf_sim_refinement.proofs.periods.law_boundary.Goals as goal

pub returns : goal.returns
returns c = record { leads = answers_lead; kept = boundary_at; new = new_periods_are_whole }
