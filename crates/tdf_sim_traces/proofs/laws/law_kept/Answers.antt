use Rattle.tdf_sim_traces.proofs.Ahead.{told_is_shown}
use Rattle.tdf_sim_traces.proofs.Kept.{later_is_shown, rows_may_be_written, written_is_shown}
use Rattle.tdf_sim_traces.proofs.laws.law_kept.Goals as goal

pub returns-clause-rows : goal.returns-clause-rows
returns-clause-rows c = rows_may_be_written

pub returns-clause-written : goal.returns-clause-written
returns-clause-written c = written_is_shown

pub returns-clause-later : goal.returns-clause-later
returns-clause-later c = later_is_shown

pub returns-clause-told : goal.returns-clause-told
returns-clause-told c = told_is_shown
