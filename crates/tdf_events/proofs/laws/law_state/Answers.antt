use Rattle.tdf_events.proofs.Returning.{state_kept}
use Rattle.tdf_events.proofs.laws.law_state.Goals as goal

pub returns : goal.returns
returns c = state_kept
