use Rattle.tdf_sim_refinement.proofs.Ports.{ports_have_events}
use Rattle.tdf_sim_refinement.proofs.laws.law_ports.Goals as goal

pub returns : goal.returns
returns c = ports_have_events c.law_formats.ensures
