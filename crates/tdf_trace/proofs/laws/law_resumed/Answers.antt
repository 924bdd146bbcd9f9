use Rattle.tdf_trace.proofs.Resumed.{holds_resumed, last_stamps}
use Rattle.tdf_trace.proofs.laws.law_resumed.Goals as goal

pub returns-clause-holds : goal.returns-clause-holds
returns-clause-holds c = holds_resumed

pub returns-clause-stamps : goal.returns-clause-stamps
returns-clause-stamps c = last_stamps
