use Rattle.tdf_stim_flat.proofs.Writers.{last_gives_alone}
use Rattle.tdf_stim_flat.proofs.laws.law_last_alone.Goals as goal

pub returns : goal.returns
returns c = last_gives_alone
