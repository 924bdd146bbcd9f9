use Rattle.tdf_io.specs.Bytes.{HasWritten, pieces_text}
use Rattle.tdf_sim_notes.proofs.Listed.{piece_at}
use Rattle.tdf_sim_notes.proofs.plans.write_each.Given as goal

abbrev pub invariant-loop-place : goal.invariant-loop-place
invariant-loop-place g l = HasWritten g.N.Sink.taken g.N.Sink.faults l.initial.notes l.notes (pieces_text (piece_at l.flat l.firsts) l.place)
