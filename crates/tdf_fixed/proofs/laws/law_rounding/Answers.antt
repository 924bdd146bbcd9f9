-- Each clause is a lemma.
use Rattle.tdf_fixed.proofs.Orders.{monotone}
use Rattle.tdf_fixed.proofs.ValueLaws.{nearest_half, rounds_down}
use Rattle.tdf_fixed.proofs.Wraps.{neighbours}
use Rattle.tdf_fixed.proofs.laws.law_rounding.Goals as goal

pub returns-clause-neighbours : goal.returns-clause-neighbours
returns-clause-neighbours c = neighbours

pub returns-clause-monotone : goal.returns-clause-monotone
returns-clause-monotone c = monotone

pub returns-clause-nearest : goal.returns-clause-nearest
returns-clause-nearest c = nearest_half

pub returns-clause-down : goal.returns-clause-down
returns-clause-down c = rounds_down
