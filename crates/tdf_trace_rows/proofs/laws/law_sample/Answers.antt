use Rattle.tdf_trace_rows.proofs.Positions.{one_sample}
use Rattle.tdf_trace_rows.proofs.laws.law_sample.Goals as goal

pub returns : goal.returns
returns c = one_sample
