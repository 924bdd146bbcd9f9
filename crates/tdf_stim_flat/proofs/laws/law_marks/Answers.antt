use Rattle.tdf_stim_flat.proofs.Marks.{marks_are_written}
use Rattle.tdf_stim_flat.proofs.laws.law_marks.Goals as goal

pub returns : goal.returns
returns c = marks_are_written
