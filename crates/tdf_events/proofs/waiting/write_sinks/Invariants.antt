use Rattle.std.proofs.Common.{◌≡◌, length, take}
use Rattle.tdf_events.specs.Delta.{waiting_with}
use Rattle.tdf_events.proofs.waiting.write_sinks.Given as goal

abbrev pub invariant-loop-i : goal.invariant-loop-i
invariant-loop-i l = record {
  first : l.waiting ≡ waiting_with (take l.i l.writes) l.initial.waiting;
  same : length l.waiting ≡ length l.initial.waiting;
}
