use Rattle.std.proofs.Common.{◌≡◌, length}
use Rattle.tdf_events.specs.Kernel.{AreSensitive}
use Rattle.tdf_events.proofs.making.by_event.Given as goal

abbrev pub invariant-loop-i : goal.invariant-loop-i
invariant-loop-i l = record {
  long : length l.lists ≡ l.events;
  lists : AreSensitive (λ row. row.events) l.processes l.i l.lists;
}
