use Rattle.std.proofs.Common.{◌≡◌, drop}
use Rattle.tdf_io.specs.Bytes.{HasWritten, pieces_text}
use Rattle.tdf_sampling.proofs.groups.write_lines.Given as goal
use Rattle.tdf_sampling.specs.machine.Measures.{measured_piece}
use Rattle.tdf_tables.specs.Words.{words_of}

abbrev pub invariant-loop-place : goal.invariant-loop-place
invariant-loop-place g l = record {
  rest : words_of l.rest ≡ drop l.place (words_of l.labels);
  wrote : HasWritten g.K.Sink.taken g.K.Sink.faults l.initial.sink l.sink (pieces_text (measured_piece (words_of l.labels) l.count l.columns.items) l.place);
}
