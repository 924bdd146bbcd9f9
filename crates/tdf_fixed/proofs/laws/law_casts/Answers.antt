-- Each clause is a lemma.
use Rattle.tdf_fixed.proofs.Api.{by_value, cast_keeps, cast_again}
use Rattle.tdf_fixed.proofs.laws.law_casts.Goals as goal

pub returns-clause-by_value : goal.returns-clause-by_value
returns-clause-by_value c = by_value

pub returns-clause-kept : goal.returns-clause-kept
returns-clause-kept c = cast_keeps

pub returns-clause-idempotent : goal.returns-clause-idempotent
returns-clause-idempotent c = cast_again
