use Rattle.tdf_sim_notes.proofs.Listed.{plans_are_first}
use Rattle.tdf_sim_notes.proofs.Notes.{notes_are}
use Rattle.tdf_sim_notes.proofs.laws.law_report.Goals as goal

pub returns-clause-firsts : goal.returns-clause-firsts
returns-clause-firsts c = plans_are_first

pub returns-clause-notes : goal.returns-clause-notes
returns-clause-notes c = notes_are
