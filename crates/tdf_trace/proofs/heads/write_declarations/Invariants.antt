use Rattle.tdf_io.specs.Bytes.{HasWritten, pieces_text}
use Rattle.tdf_trace.proofs.heads.write_declarations.Given as goal
use Rattle.tdf_trace.specs.Vcd.{declaration_piece}
use Rattle.tdf_trace.specs.Writings.{labels_of, sizes_of}

abbrev pub invariant-loop-i : goal.invariant-loop-i
invariant-loop-i g l = HasWritten g.K.Sink.taken g.K.Sink.faults l.initial.sink l.sink (pieces_text (declaration_piece (sizes_of l.variables.items) (labels_of l.variables.items)) l.i)
