use Rattle.std.proofs.Common.{◌++◌}
use Rattle.tdf_io.proofs.Api.{writes_less, writes_then}
use Rattle.tdf_trace.proofs.heads.write_declared.Goals as goal
use Rattle.tdf_trace.specs.Vcd.{declarations, scope_begin, timescale}
use Rattle.tdf_trace.specs.Writings.{labels_of, sizes_of}

pub returns-in-Ok : goal.returns-in-Ok
returns-in-Ok g c = writes_then g.K.Sink.taken g.K.Sink.faults _ _ _ (timescale c.args.resolution ++ scope_begin) (declarations (sizes_of c.args.variables.now.items) (labels_of c.args.variables.now.items)) tt _ c.in-Ok.ensures c.write_declarations.ensures

pub returns-in-Err : goal.returns-in-Err
returns-in-Err g c = writes_less g.K.Sink.taken g.K.Sink.faults _ _ (timescale c.args.resolution ++ scope_begin) (declarations (sizes_of c.args.variables.now.items) (labels_of c.args.variables.now.items)) c.in-Err.error c.in-Err.ensures
