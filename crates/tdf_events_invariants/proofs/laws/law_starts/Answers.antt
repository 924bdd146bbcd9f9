use Rattle.tdf_events_invariants.proofs.Starts.{signals_start_in_format}
use Rattle.tdf_events_invariants.proofs.laws.law_starts.Goals as goal

pub returns : goal.returns
returns c = signals_start_in_format
