use Rattle.tdf_tables_of_runs.proofs.Labels.{has_labels}
use Rattle.tdf_tables_of_runs.proofs.Texts.{run_writes_table}
use Rattle.tdf_tables_of_runs.proofs.laws.law_run_table.Goals as goal

pub returns : goal.returns
returns c = record { text = run_writes_table c.law_row_times.ensures; labels = has_labels }
