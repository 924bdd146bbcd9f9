use Rattle.tdf_io.proofs.Api.{writes_less, writes_then}
use Rattle.tdf_trace.proofs.heads.write_opening.Goals as goal
use Rattle.tdf_trace.specs.Vcd.{scope_begin, timescale}

pub returns-in-Ok : goal.returns-in-Ok
returns-in-Ok g c = writes_then g.K.Sink.taken g.K.Sink.faults _ _ _ (timescale c.args.resolution) scope_begin tt _ c.in-Ok.ensures c.write_scope_begin.ensures

pub returns-in-Err : goal.returns-in-Err
returns-in-Err g c = writes_less g.K.Sink.taken g.K.Sink.faults _ _ (timescale c.args.resolution) scope_begin c.in-Err.error c.in-Err.ensures
