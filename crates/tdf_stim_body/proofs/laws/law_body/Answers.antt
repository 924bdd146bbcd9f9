use Rattle.tdf_stim_body.proofs.Bodies.{body_drives}
use Rattle.tdf_stim_body.proofs.laws.law_body.Goals as goal

pub returns : goal.returns
returns c = body_drives
