use Rattle.tdf_io.specs.Bytes.{HasWritten}
use Rattle.tdf_tables.proofs.Texts.{text_before}
use Rattle.tdf_tables.proofs.writing.write_rows.Given as goal

abbrev pub invariant-loop-k : goal.invariant-loop-k
invariant-loop-k g l = HasWritten g.K.Sink.taken g.K.Sink.faults l.initial.sink l.sink (text_before l.rows l.k)
