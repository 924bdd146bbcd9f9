use Rattle.tdf_stim_process.proofs.Reading.{text_gives_instance}
use Rattle.tdf_stim_process.proofs.laws.law_text.Goals as goal

pub returns : goal.returns
returns c = text_gives_instance c.law_checked.ensures
