use Rattle.std.proofs.Common.{◌≡◌, ◌≤◌, ◌-◌, max, Ok, length}
use Rattle.std.specs.Prelude.{⊤}
use Rattle.tdf_io.specs.Faults.{CountsSinkFaults}
use Rattle.tdf_trace.proofs.rows.write_below.Given as goal
use Rattle.tdf_trace.specs.machine.Moving.{MovesOn}
use Rattle.tdf_trace.specs.machine.Turning.{AreKept, AreSound}
use Rattle.tdf_trace.specs.views.Seen.{Fits, rows_seen}

abbrev pub invariant-loop-rows : goal.invariant-loop-rows
invariant-loop-rows g l = record {
  same : length l.rows.columns.items ≡ length l.initial.rows.columns.items;
  fits : Fits l.about l.rows.columns.items;
  sound : AreSound l.rows.upto l.rows.columns.items;
  kept : AreKept l.rows.columns.items l.rows.least l.rows.announces;
  within : l.rows.upto ≤ max l.initial.rows.upto l.limit;
  wrote : MovesOn l.about l.waits (rows_seen l.initial.rows) (rows_seen l.rows) (g.K.Sink.taken l.initial.sink) (g.K.Sink.taken l.sink);
  counted : CountsSinkFaults {T = ⊤} (g.K.Sink.faults l.initial.sink) (g.K.Sink.faults l.sink) (Ok tt);
}

abbrev pub decreases-loop-rows : goal.decreases-loop-rows
decreases-loop-rows g l = l.limit - l.rows.upto
