use Rattle.tdf_trace.proofs.Api.{left_is}
use Rattle.tdf_trace.proofs.Resumed.{rest_waits}
use Rattle.tdf_trace.proofs.laws.law_left.Goals as goal

pub returns-clause-left : goal.returns-clause-left
returns-clause-left c = left_is

pub returns-clause-waiting : goal.returns-clause-waiting
returns-clause-waiting c = rest_waits
