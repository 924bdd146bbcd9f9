use Rattle.tdf_stim_body.proofs.Naming.{driver_names_stand}
use Rattle.tdf_stim_body.proofs.laws.law_names.Goals as goal

pub returns : goal.returns
returns c = driver_names_stand
