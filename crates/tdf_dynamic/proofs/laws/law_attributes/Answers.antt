use Rattle.tdf_dynamic.proofs.Staying.{attributes_stay}
use Rattle.tdf_dynamic.proofs.laws.law_attributes.Goals as goal

pub returns : goal.returns
returns c = attributes_stay
