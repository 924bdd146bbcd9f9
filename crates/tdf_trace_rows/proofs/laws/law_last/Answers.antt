use Rattle.tdf_trace_rows.proofs.Rows.{last_cell}
use Rattle.tdf_trace_rows.proofs.laws.law_last.Goals as goal

pub returns : goal.returns
returns c = last_cell
