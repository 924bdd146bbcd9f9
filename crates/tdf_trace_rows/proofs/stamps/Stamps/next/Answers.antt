use Rattle.tdf_trace_rows.proofs.Stamping.{stamped_on, stamped_time}
use Rattle.tdf_trace_rows.proofs.stamps.Stamps.next.Goals as goal

pub returns-clause-time : goal.returns-clause-time
returns-clause-time c spans done is = stamped_time spans done _ _ _ c.requires.left is

pub returns-clause-on : goal.returns-clause-on
returns-clause-on c spans done is = stamped_on spans done _ _ _ c.requires.left is
