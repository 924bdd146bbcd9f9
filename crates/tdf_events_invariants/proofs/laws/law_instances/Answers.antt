use Rattle.tdf_events_invariants.proofs.Instances.{instances_have_blocks}
use Rattle.tdf_events_invariants.proofs.laws.law_instances.Goals as goal

pub returns : goal.returns
returns c = instances_have_blocks c.law_names_once.ensures
