use Rattle.tdf_bind_invariants.proofs.Formats.{ports_have_formats}
use Rattle.tdf_bind_invariants.proofs.laws.law_formats.Goals as goal

pub returns : goal.returns
returns c = ports_have_formats c.law_names_once.ensures
