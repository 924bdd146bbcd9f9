use Rattle.tdf_stim_body.proofs.Lines.{lines_change_nothing}
use Rattle.tdf_stim_body.proofs.laws.law_lines.Goals as goal

pub returns : goal.returns
returns c = lines_change_nothing
