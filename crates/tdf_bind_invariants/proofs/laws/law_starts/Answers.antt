use Rattle.tdf_bind_invariants.proofs.Allowed.{starts_are_allowed}
use Rattle.tdf_bind_invariants.proofs.OneStart.{spans_are_one, starts_are_one}
use Rattle.tdf_bind_invariants.proofs.laws.law_starts.Goals as goal

pub returns-clause-spans : goal.returns-clause-spans
returns-clause-spans c = spans_are_one

pub returns-clause-starts : goal.returns-clause-starts
returns-clause-starts c = starts_are_one

pub returns-clause-allowed : goal.returns-clause-allowed
returns-clause-allowed c = starts_are_allowed
