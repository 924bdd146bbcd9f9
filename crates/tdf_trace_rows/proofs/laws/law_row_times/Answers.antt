use Rattle.tdf_trace_rows.proofs.Times.{text_times}
use Rattle.tdf_trace_rows.proofs.laws.law_row_times.Goals as goal

pub returns : goal.returns
returns c = text_times
