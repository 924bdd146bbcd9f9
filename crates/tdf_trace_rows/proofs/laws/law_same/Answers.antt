use Rattle.tdf_trace_rows.proofs.Sames.{text_same}
use Rattle.tdf_trace_rows.proofs.laws.law_same.Goals as goal

pub returns : goal.returns
returns c = text_same
