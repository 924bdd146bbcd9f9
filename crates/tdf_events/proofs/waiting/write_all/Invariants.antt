use Rattle.std.proofs.Common.{◌≡◌, length}
use Rattle.tdf_events.specs.Processes.{written_first}
use Rattle.tdf_events.proofs.waiting.write_all.Given as goal

abbrev pub invariant-loop-i : goal.invariant-loop-i
invariant-loop-i l = record {
  first : l.waiting ≡ written_first l.signals l.ports.spans l.ports.state l.i l.initial.waiting;
  same : length l.waiting ≡ length l.initial.waiting;
}
