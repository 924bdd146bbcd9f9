use Rattle.tdf_trace_rows.proofs.Sames.{stays_below}
use Rattle.tdf_trace_rows.proofs.laws.law_steady.Goals as goal

pub returns : goal.returns
returns c = stays_below
