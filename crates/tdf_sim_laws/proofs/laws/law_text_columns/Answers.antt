use Rattle.tdf_sim_laws.proofs.Columns.{text_columns_are}
use Rattle.tdf_sim_laws.proofs.laws.law_text_columns.Goals as goal

pub returns : goal.returns
returns c = text_columns_are
