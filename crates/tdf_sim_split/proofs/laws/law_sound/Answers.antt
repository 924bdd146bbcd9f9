use Rattle.tdf_sim_split.proofs.Starts.{texts_are_sound, texts_begin_sound}
use Rattle.tdf_sim_split.proofs.laws.law_sound.Goals as goal

pub returns-clause-clusters : goal.returns-clause-clusters
returns-clause-clusters c = texts_begin_sound

pub returns-clause-start : goal.returns-clause-start
returns-clause-start c = texts_are_sound c.law_cells.ensures.keep c.law_cells.ensures.start
