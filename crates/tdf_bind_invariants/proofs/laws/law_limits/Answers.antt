use Rattle.tdf_bind_invariants.proofs.Limits.{flat_is_within_limits}
use Rattle.tdf_bind_invariants.proofs.laws.law_limits.Goals as goal

pub returns : goal.returns
returns c = flat_is_within_limits c.law_ranges.ensures
