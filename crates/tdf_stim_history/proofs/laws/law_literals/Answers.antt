use Rattle.tdf_stim_history.proofs.Literals.{last_row_gives}
use Rattle.tdf_stim_history.proofs.laws.law_literals.Goals as goal

pub returns : goal.returns
returns c = last_row_gives
