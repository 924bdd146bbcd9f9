use Rattle.tdf_stim_binding.proofs.Roles.{driver_has_role}
use Rattle.tdf_stim_binding.proofs.laws.law_roles.Goals as goal

pub returns : goal.returns
returns c = driver_has_role
