use Rattle.tdf_stim_process.proofs.Shown.{ports_show_columns}
use Rattle.tdf_stim_process.proofs.laws.law_ports.Goals as goal

pub returns : goal.returns
returns c = ports_show_columns
