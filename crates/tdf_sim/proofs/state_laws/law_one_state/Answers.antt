use Rattle.tdf_sim.proofs.Texts.{state_is_one}
use Rattle.tdf_sim.proofs.state_laws.law_one_state.Goals as goal

pub returns : goal.returns
returns c = state_is_one c.law_text.ensures.one c.law_text.ensures.start c.law_text.ensures.found c.law_members.ensures.apart c.law_members.ensures.lines c.law_rests_alike.ensures.members
