use Rattle.tdf_sim_shown.proofs.Columned.{AreColumnsTo}
use Rattle.tdf_sim_shown.proofs.column_states.are_columns.Given as goal

abbrev pub invariant-loop-n : goal.invariant-loop-n
invariant-loop-n l = AreColumnsTo l.flat l.rows l.time l.values l.windows l.columns l.n
