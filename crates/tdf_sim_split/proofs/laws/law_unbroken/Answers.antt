use Rattle.tdf_sim_split.proofs.Unbroken.{runs_are_unbroken}
use Rattle.tdf_sim_split.proofs.laws.law_unbroken.Goals as goal

pub returns : goal.returns
returns c = runs_are_unbroken c.law_parts.ensures c.law_sound.ensures.start c.law_saved_goes_on.ensures.valid c.law_saved_goes_on.ensures.on c.law_columns.ensures.valid c.law_columns.ensures.text c.law_in_formats.ensures.kept c.law_in_formats.ensures.text
