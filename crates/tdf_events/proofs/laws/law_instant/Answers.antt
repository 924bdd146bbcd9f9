use Rattle.tdf_events.proofs.Afterwards.{ends_idle, none_stays_before, nothing_stays_waiting, only_later_stay, turns_never_grow}
use Rattle.tdf_events.proofs.laws.law_instant.Goals as goal

pub returns-clause-idle : goal.returns-clause-idle
returns-clause-idle c = ends_idle

pub returns-clause-turns : goal.returns-clause-turns
returns-clause-turns c = turns_never_grow

pub returns-clause-waiting : goal.returns-clause-waiting
returns-clause-waiting c = nothing_stays_waiting

pub returns-clause-before : goal.returns-clause-before
returns-clause-before c = none_stays_before

pub returns-clause-later : goal.returns-clause-later
returns-clause-later c = only_later_stay
