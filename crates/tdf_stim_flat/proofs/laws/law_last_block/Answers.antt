use Rattle.tdf_stim_flat.proofs.Ends.{last_is_last}
use Rattle.tdf_stim_flat.proofs.laws.law_last_block.Goals as goal

pub returns : goal.returns
returns c = last_is_last
