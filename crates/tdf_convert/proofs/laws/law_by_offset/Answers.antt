use Rattle.tdf_convert.proofs.Planned.{by_offset}
use Rattle.tdf_convert.proofs.laws.law_by_offset.Goals as goal

pub returns : goal.returns
returns c = by_offset
