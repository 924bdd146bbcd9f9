use Rattle.tdf_events_invariants.proofs.Running.{sound_is_runnable}
use Rattle.tdf_events_invariants.proofs.laws.law_runnable.Goals as goal

pub returns : goal.returns
returns c = sound_is_runnable c.law_names_once.ensures
