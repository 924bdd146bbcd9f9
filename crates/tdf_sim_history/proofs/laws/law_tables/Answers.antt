use Rattle.tdf_sim_history.proofs.Tables.{tables_law}
use Rattle.tdf_sim_history.proofs.laws.law_tables.Goals as goal

pub returns : goal.returns
returns c = tables_law
