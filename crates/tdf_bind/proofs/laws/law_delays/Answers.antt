use Rattle.tdf_bind.proofs.Delays.{delays_are_short}
use Rattle.tdf_bind.proofs.laws.law_delays.Goals as goal

pub returns : goal.returns
returns c = delays_are_short
