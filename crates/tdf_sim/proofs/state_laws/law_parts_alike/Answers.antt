use Rattle.tdf_sim.proofs.StateAlike.{parts_are_alike, snapshots_are_one}
use Rattle.tdf_sim.proofs.state_laws.law_parts_alike.Goals as goal

pub returns : goal.returns
returns c = record {
  parts = parts_are_alike c.law_limits.ensures c.law_numbers.ensures c.law_plannable.ensures c.law_one_model.ensures c.law_one_part.ensures;
  snapshots = snapshots_are_one c.law_limits.ensures c.law_numbers.ensures c.law_plannable.ensures c.law_one_model.ensures c.law_one_part.ensures;
}
