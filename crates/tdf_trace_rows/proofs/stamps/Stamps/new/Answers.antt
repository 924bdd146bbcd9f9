use Rattle.tdf_trace_rows.proofs.Stamping.{stamped_none}
use Rattle.tdf_trace_rows.proofs.stamps.Stamps.new.Goals as goal

pub returns-clause-none : goal.returns-clause-none
returns-clause-none c = stamped_none _ _
