use Rattle.tdf_sim_traces.proofs.Able.{advanced_can_be_taken, sound_can_be_shown, sound_can_start}
use Rattle.tdf_sim_traces.proofs.laws.law_can.Goals as goal

pub returns-clause-shown : goal.returns-clause-shown
returns-clause-shown c = sound_can_be_shown

pub returns-clause-start : goal.returns-clause-start
returns-clause-start c = sound_can_start c.law_formats.ensures

pub returns-clause-taken : goal.returns-clause-taken
returns-clause-taken c = advanced_can_be_taken
