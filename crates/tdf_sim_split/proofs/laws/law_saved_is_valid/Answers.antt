use Rattle.tdf_sim_split.proofs.Validity.{snapshot_valid}
use Rattle.tdf_sim_split.proofs.laws.law_saved_is_valid.Goals as goal

pub returns : goal.returns
returns c = snapshot_valid c.law_columns.ensures.valid c.law_saved_goes_on.ensures.valid c.law_saved_goes_on.ensures.on c.law_in_formats.ensures.kept
