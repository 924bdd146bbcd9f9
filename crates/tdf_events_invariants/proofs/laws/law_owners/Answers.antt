use Rattle.tdf_events_invariants.proofs.Owned.{event_rows_have_owners}
use Rattle.tdf_events_invariants.proofs.laws.law_owners.Goals as goal

pub returns : goal.returns
returns c = event_rows_have_owners
