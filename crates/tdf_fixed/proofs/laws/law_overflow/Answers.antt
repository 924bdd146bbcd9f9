-- Each clause is a lemma.
use Rattle.tdf_fixed.proofs.Wraps.{nearest, wrap_is, only_wrap}
use Rattle.tdf_fixed.proofs.laws.law_overflow.Goals as goal

pub returns-clause-nearest : goal.returns-clause-nearest
returns-clause-nearest c = nearest

pub returns-clause-wrap : goal.returns-clause-wrap
returns-clause-wrap c = wrap_is

pub returns-clause-only_wrap : goal.returns-clause-only_wrap
returns-clause-only_wrap c = only_wrap
