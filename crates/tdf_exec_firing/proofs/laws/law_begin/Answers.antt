use Rattle.tdf_exec_firing.proofs.Begins.{begin_ready}
use Rattle.tdf_exec_firing.proofs.laws.law_begin.Goals as goal

pub returns : goal.returns
returns c = begin_ready
