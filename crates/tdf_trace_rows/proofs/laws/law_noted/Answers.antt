use Rattle.tdf_trace_rows.proofs.Noting.{noted_more}
use Rattle.tdf_trace_rows.proofs.laws.law_noted.Goals as goal

pub returns : goal.returns
returns c = noted_more
