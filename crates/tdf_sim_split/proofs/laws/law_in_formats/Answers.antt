use Rattle.tdf_sim_split.proofs.InFormats.{formats_are_kept, resumed_begins_so, texts_begin_so}
use Rattle.tdf_sim_split.proofs.laws.law_in_formats.Goals as goal

pub returns-clause-kept : goal.returns-clause-kept
returns-clause-kept c = formats_are_kept c.law_samples.ensures.keep c.law_samples.ensures.placed c.law_formats.ensures

pub returns-clause-text : goal.returns-clause-text
returns-clause-text c = texts_begin_so c.law_formats.ensures

pub returns-clause-resumed : goal.returns-clause-resumed
returns-clause-resumed c = resumed_begins_so
