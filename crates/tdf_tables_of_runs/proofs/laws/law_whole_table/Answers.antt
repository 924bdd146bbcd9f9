use Rattle.tdf_tables_of_runs.proofs.Forms.{short_values, table_of_trace}
use Rattle.tdf_tables_of_runs.proofs.laws.law_whole_table.Goals as goal

pub returns : goal.returns
returns c = record {
  form = table_of_trace c.law_run_table.ensures.text c.law_formats.ensures c.law_starts.ensures c.law_texts.ensures.values;
  values = short_values c.law_formats.ensures c.law_starts.ensures;
}
