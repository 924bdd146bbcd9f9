use Rattle.tdf_stim_process.proofs.Starting.{placed_has_times, placed_is_driver}
use Rattle.tdf_stim_process.proofs.laws.law_placed.Goals as goal

pub returns : goal.returns
returns c = record { driver = placed_is_driver; times = placed_has_times }
