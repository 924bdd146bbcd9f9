use Rattle.std.proofs.Common.{◌≡◌, ◌≤◌, ◌-◌, drop, length}
use Rattle.tdf_io.specs.Bytes.{HasWritten, pieces_text}
use Rattle.tdf_sampling.proofs.windows.write_windows.Given as goal
use Rattle.tdf_sampling.specs.Choice.{end_time}
use Rattle.tdf_sampling.specs.Statistics.{window_piece}
use Rattle.tdf_sampling.specs.machine.Windows.{IsAhead, next_window, rows_of}
use Rattle.tdf_tables.specs.Words.{words_of}

abbrev pub invariant-loop-from : goal.invariant-loop-from
invariant-loop-from g l = record {
  many : length l.kept.columns.items ≡ length l.initial.kept.columns.items;
  within : l.from ≤ length l.rows;
  ahead : IsAhead (rows_of l.rows) l.step (rows_of (drop l.from l.rows));
  wrote : HasWritten g.K.Sink.taken g.K.Sink.faults l.initial.sink l.sink
      (pieces_text (window_piece (words_of l.labels) l.step (rows_of l.rows)) (next_window l.step (rows_of (drop l.from l.rows)) (end_time (rows_of l.rows))));
}

abbrev pub decreases-loop-from : goal.decreases-loop-from
decreases-loop-from g l = length l.rows - l.from
