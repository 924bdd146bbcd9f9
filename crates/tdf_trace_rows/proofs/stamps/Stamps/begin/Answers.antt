use Rattle.tdf_trace_rows.proofs.Stamping.{stamped_begin}
use Rattle.tdf_trace_rows.proofs.stamps.Stamps.begin.Goals as goal

pub returns-clause-took : goal.returns-clause-took
returns-clause-took c spans done is = stamped_begin spans done _ _ _ _ _ _ c.requires.none is
