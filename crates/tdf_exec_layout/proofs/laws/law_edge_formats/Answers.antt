use Rattle.tdf_exec_layout.proofs.Samples.{edges_have_formats}
use Rattle.tdf_exec_layout.proofs.laws.law_edge_formats.Goals as goal

pub returns : goal.returns
returns c = edges_have_formats c.law_formats.ensures
