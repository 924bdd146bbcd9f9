use Rattle.tdf_sim_split.proofs.Snapshots.{snapshots_are_valid, snapshots_go_on, sound_again}
use Rattle.tdf_sim_split.proofs.laws.law_saved_goes_on.Goals as goal

pub returns-clause-valid : goal.returns-clause-valid
returns-clause-valid c = snapshots_are_valid c.law_processes.ensures c.law_cells.ensures.keep

pub returns-clause-on : goal.returns-clause-on
returns-clause-on c = snapshots_go_on c.law_processes.ensures c.law_cells.ensures.keep c.law_cells.ensures.start c.law_one_table.ensures c.law_edge_formats.ensures c.law_counts.ensures.apart c.law_counts.ensures.unique c.law_plans.ensures.plans c.law_plans.ensures.bounds

pub returns-clause-again : goal.returns-clause-again
returns-clause-again c = sound_again c.law_processes.ensures c.law_cells.ensures.keep c.law_cells.ensures.start c.law_one_table.ensures c.law_edge_formats.ensures c.law_counts.ensures.apart c.law_counts.ensures.unique c.law_plans.ensures.plans c.law_plans.ensures.bounds
