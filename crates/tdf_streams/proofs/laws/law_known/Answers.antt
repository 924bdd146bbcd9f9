use Rattle.tdf_streams.proofs.Api.{all_known, fed_known, more_keeps}
use Rattle.tdf_streams.proofs.laws.law_known.Goals as goal

pub returns : goal.returns
returns c = record { fed = fed_known; all = all_known; more = more_keeps }
