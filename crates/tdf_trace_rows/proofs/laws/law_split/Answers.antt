use Rattle.tdf_trace_rows.proofs.Rows.{text_split}
use Rattle.tdf_trace_rows.proofs.laws.law_split.Goals as goal

pub returns : goal.returns
returns c = text_split
