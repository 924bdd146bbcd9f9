use Rattle.tdf_bind_tables.proofs.Reaching.{ports_reach_signals}
use Rattle.tdf_bind_tables.proofs.laws.law_signals.Goals as goal

pub returns : goal.returns
returns c = ports_reach_signals c.law_numbers.ensures.ports c.law_kinds.ensures
