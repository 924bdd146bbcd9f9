use Rattle.std.proofs.Common.{◌++◌}
use Rattle.tdf_io.proofs.Api.{writes_less, writes_then}
use Rattle.tdf_trace.proofs.heads.write_scope.Goals as goal
use Rattle.tdf_trace.specs.Vcd.{declarations, scope_begin, scope_end, timescale}
use Rattle.tdf_trace.specs.Writings.{labels_of, sizes_of}

pub returns-in-Ok : goal.returns-in-Ok
returns-in-Ok g c = writes_then g.K.Sink.taken g.K.Sink.faults _ _ _ (timescale c.args.resolution ++ scope_begin ++ declarations (sizes_of c.args.variables.now.items) (labels_of c.args.variables.now.items)) scope_end tt _ c.in-Ok.ensures c.write_scope_end.ensures

pub returns-in-Err : goal.returns-in-Err
returns-in-Err g c = writes_less g.K.Sink.taken g.K.Sink.faults _ _ (timescale c.args.resolution ++ scope_begin ++ declarations (sizes_of c.args.variables.now.items) (labels_of c.args.variables.now.items)) scope_end c.in-Err.error c.in-Err.ensures
