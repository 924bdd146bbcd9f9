use Rattle.tdf_bind_tables.proofs.RangeLaws.{flat_is_in_range}
use Rattle.tdf_bind_tables.proofs.laws.law_ranges.Goals as goal

pub returns : goal.returns
returns c = flat_is_in_range
