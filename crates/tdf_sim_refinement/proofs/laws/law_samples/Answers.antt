use Rattle.tdf_sim_refinement.proofs.Knowing.{done_is_known, held_is_known}
use Rattle.tdf_sim_refinement.proofs.Sampled.{boundaries_add_none, cell_of_samples, starts_have_samples}
use Rattle.tdf_sim_refinement.proofs.laws.law_samples.Goals as goal

pub returns-clause-start : goal.returns-clause-start
returns-clause-start c = starts_have_samples

pub returns-clause-boundary : goal.returns-clause-boundary
returns-clause-boundary c = boundaries_add_none

pub returns-clause-cells : goal.returns-clause-cells
returns-clause-cells c = cell_of_samples

pub returns-clause-done : goal.returns-clause-done
returns-clause-done c = done_is_known

pub returns-clause-held : goal.returns-clause-held
returns-clause-held c = held_is_known
