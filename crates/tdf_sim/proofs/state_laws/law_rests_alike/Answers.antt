use Rattle.tdf_sim.proofs.StateAlike.{answers_are_alike, members_are_alike, rests_are_alike, valid_is_alike}
use Rattle.tdf_sim.proofs.state_laws.law_rests_alike.Goals as goal

pub returns : goal.returns
returns c = record {
  members = members_are_alike c.law_one_model.ensures c.law_alike_parts.ensures.members;
  valid = valid_is_alike c.law_one_model.ensures c.law_alike_parts.ensures.valid;
  rests = rests_are_alike c.law_one_model.ensures c.law_limits.ensures c.law_one_rest.ensures.same;
  answers = answers_are_alike c.law_one_model.ensures c.law_one_rest.ensures.told;
}
