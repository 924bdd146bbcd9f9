use Rattle.std.proofs.Common.{◌-◌, ◌≤◌, length, slice_range}
use Rattle.std.specs.Io.KnownBytes.{Appends}
use Rattle.tdf_io.proofs.gather.write_on.Given as goal

abbrev pub invariant-loop-written : goal.invariant-loop-written
invariant-loop-written g l = record {
  up : l.from ≤ l.written;
  within : l.written ≤ length l.bytes;
  wrote : Appends (g.W.Write.contents l.initial.writer) (g.W.Write.contents l.writer) (slice_range l.bytes l.from l.written);
}

abbrev pub decreases-loop-written : goal.decreases-loop-written
decreases-loop-written g l = length l.bytes - l.written
