use Rattle.tdf_bind_tables.proofs.EdgeWhole.{edges_are_whole}
use Rattle.tdf_bind_tables.proofs.laws.law_edges.Goals as goal

pub returns : goal.returns
returns c = edges_are_whole c.law_numbers.ensures.ports c.law_kinds.ensures
