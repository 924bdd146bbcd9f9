use Rattle.tdf_trace_rows.proofs.Positions.{has_times}
use Rattle.tdf_trace_rows.proofs.laws.law_times.Goals as goal

pub returns : goal.returns
returns c = has_times
