use Rattle.tdf_cli_whole.proofs.Members.{snapshots_fit}
use Rattle.tdf_cli_whole.proofs.Told.{events_are_told}
use Rattle.tdf_cli_whole.proofs.laws.law_state_members.Goals as goal

pub returns-clause-fit : goal.returns-clause-fit
returns-clause-fit c = snapshots_fit c.law_limits.ensures c.law_few_rows.ensures c.law_edge_formats.ensures

pub returns-clause-told : goal.returns-clause-told
returns-clause-told c = events_are_told c.law_limits.ensures
