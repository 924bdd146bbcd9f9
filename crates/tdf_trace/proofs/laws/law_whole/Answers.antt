use Rattle.tdf_trace.proofs.Whole.{makes_whole}
use Rattle.tdf_trace.proofs.laws.law_whole.Goals as goal

pub returns : goal.returns
returns c = makes_whole
