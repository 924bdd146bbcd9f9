use Rattle.tdf_sampling.proofs.Leasts.{finds_greatest, finds_least}
use Rattle.tdf_sampling.proofs.Values.{by_value}
use Rattle.tdf_sampling.proofs.laws.law_least.Goals as goal

pub returns-clause-least : goal.returns-clause-least
returns-clause-least c = finds_least

pub returns-clause-greatest : goal.returns-clause-greatest
returns-clause-greatest c = finds_greatest

pub returns-clause-order : goal.returns-clause-order
returns-clause-order c = by_value
