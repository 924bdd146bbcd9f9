use Rattle.tdf_exec_layout.proofs.Wired.{wires_are_wired}
use Rattle.tdf_exec_layout.proofs.laws.law_wired.Goals as goal

pub returns : goal.returns
returns c = wires_are_wired c.law_formats.ensures
