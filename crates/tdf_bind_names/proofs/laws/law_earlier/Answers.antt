use Rattle.tdf_bind_names.proofs.Bounds.{refers_back}
use Rattle.tdf_bind_names.proofs.laws.law_earlier.Goals as goal

pub returns : goal.returns
returns c = refers_back
