use Rattle.tdf_trace_rows.proofs.Positions.{position_is, time_is}
use Rattle.tdf_trace_rows.proofs.laws.law_position.Goals as goal

pub returns-clause-at : goal.returns-clause-at
returns-clause-at c = time_is

pub returns-clause-of : goal.returns-clause-of
returns-clause-of c = position_is
