use Rattle.tdf_trace_rows.proofs.Rows.{without_row}
use Rattle.tdf_trace_rows.proofs.laws.law_without.Goals as goal

pub returns : goal.returns
returns c = without_row
