use Rattle.tdf_base.proofs.IsFirst.{finds_first}
use Rattle.tdf_base.proofs.laws.law_first.Goals as goal

pub returns : goal.returns
returns c = finds_first
