use Rattle.tdf_dynamic_values.proofs.One.{values_of_one}
use Rattle.tdf_dynamic_values.proofs.laws.law_one_table.Goals as goal

pub returns : goal.returns
returns c = values_of_one
