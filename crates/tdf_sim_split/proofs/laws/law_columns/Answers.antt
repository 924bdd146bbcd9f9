use Rattle.tdf_sim_split.proofs.ResumedColumns.{resumed_begin}
use Rattle.tdf_sim_split.proofs.TextColumns.{texts_begin}
use Rattle.tdf_sim_split.proofs.ValidColumns.{saved_columns}
use Rattle.tdf_sim_split.proofs.laws.law_columns.Goals as goal

pub returns-clause-valid : goal.returns-clause-valid
returns-clause-valid c = saved_columns c.law_enough.ensures

pub returns-clause-text : goal.returns-clause-text
returns-clause-text c = texts_begin

pub returns-clause-resumed : goal.returns-clause-resumed
returns-clause-resumed c = resumed_begin c.law_resumed.ensures.due
