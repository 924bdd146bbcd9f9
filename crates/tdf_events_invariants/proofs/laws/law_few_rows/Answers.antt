use Rattle.tdf_events_invariants.proofs.Counts.{event_rows_are_few}
use Rattle.tdf_events_invariants.proofs.laws.law_few_rows.Goals as goal

pub returns : goal.returns
returns c = event_rows_are_few
