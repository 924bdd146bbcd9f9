use Rattle.tdf_exec_layout.proofs.OnePort.{signals_have_one_port}
use Rattle.tdf_exec_layout.proofs.laws.law_one_port.Goals as goal

pub returns : goal.returns
returns c = signals_have_one_port c.law_formats.ensures
