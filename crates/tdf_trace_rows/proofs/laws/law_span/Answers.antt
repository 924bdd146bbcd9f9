use Rattle.tdf_trace_rows.proofs.Positions.{one_span}
use Rattle.tdf_trace_rows.proofs.laws.law_span.Goals as goal

pub returns : goal.returns
returns c = one_span
