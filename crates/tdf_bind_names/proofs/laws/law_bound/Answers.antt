use Rattle.tdf_bind_names.proofs.Bounds.{binds_all}
use Rattle.tdf_bind_names.proofs.laws.law_bound.Goals as goal

pub returns : goal.returns
returns c = binds_all
