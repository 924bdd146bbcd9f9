use Rattle.tdf_sim_history.proofs.Texts.{more_writes_the_same}
use Rattle.tdf_sim_history.proofs.laws.law_told.Goals as goal

pub returns : goal.returns
returns c = more_writes_the_same
