use Rattle.tdf_bind.proofs.OneAnswer.{blocks_are_one}
use Rattle.tdf_bind.proofs.laws.law_blocks.Goals as goal

pub returns : goal.returns
returns c = blocks_are_one
