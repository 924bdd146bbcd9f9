use Rattle.tdf_sim_shown.proofs.RowsFrom.{gives_rows}
use Rattle.tdf_sim_shown.proofs.saved.rows_from.Goals as goal

pub returns-clause-rows : goal.returns-clause-rows
returns-clause-rows c = gives_rows c.args.shown.now c.args.time c.first_missing.result c.first_missing.ensures

pub returns-clause-first : goal.returns-clause-first
returns-clause-first c = c.first_missing.ensures
