use Rattle.tdf_sim_laws.proofs.Splitting.{history_splits, quiet_is_from_zero}
use Rattle.tdf_sim_laws.proofs.laws.law_splits.Goals as goal

pub returns : goal.returns
returns c = record { splits = history_splits; quiet = quiet_is_from_zero }
