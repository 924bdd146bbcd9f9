use Rattle.tdf_stim_history.proofs.Instants.{instants_do_the_side}
use Rattle.tdf_stim_history.proofs.laws.law_driver_instants.Goals as goal

pub returns : goal.returns
returns c = instants_do_the_side
