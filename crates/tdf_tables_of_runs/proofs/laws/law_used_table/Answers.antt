use Rattle.tdf_tables_of_runs.proofs.Uses.{answers_sample, answers_stats, measures_its_table, samples_its_table}
use Rattle.tdf_tables_of_runs.proofs.laws.law_used_table.Goals as goal

pub returns : goal.returns
returns c = record {
  sampled = samples_its_table c.law_read_table.ensures.rows;
  measured = measures_its_table c.law_read_table.ensures.rows;
  sample = answers_sample c.law_tables.ensures.one_table c.law_tables.ensures.not_both c.law_whole_table.ensures.form;
  stats = answers_stats c.law_tables.ensures.not_both c.law_whole_table.ensures.form;
}
