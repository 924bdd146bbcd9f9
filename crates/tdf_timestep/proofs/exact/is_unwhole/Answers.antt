use Rattle.tdf_timestep.proofs.Unwhole.{unwhole_both}
use Rattle.tdf_timestep.proofs.exact.is_unwhole.Goals as goal

pub returns-then-share-ne0 : goal.returns-then-share-ne0
returns-then-share-ne0 c = unwhole_both c.args.share c.args.period c.if-share-ne0.true
