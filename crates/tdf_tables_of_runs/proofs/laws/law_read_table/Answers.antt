use Rattle.tdf_tables_of_runs.proofs.Reading.{read_as_its_table}
use Rattle.tdf_tables_of_runs.proofs.laws.law_read_table.Goals as goal

pub returns : goal.returns
returns c = record { rows = read_as_its_table c.law_run_table.ensures.text }
