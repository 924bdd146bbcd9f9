use Rattle.tdf_bind_ports.proofs.IsFirst.{finds_first}
use Rattle.tdf_bind_ports.proofs.laws.law_link_faults.Goals as goal

pub returns : goal.returns
returns c = finds_first
