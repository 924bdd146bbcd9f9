use Rattle.std.proofs.Common.{◌≡◌, length}
use Rattle.tdf_events.specs.Kernel.{AreSensitive}
use Rattle.tdf_events.proofs.making.by_signal.Given as goal

abbrev pub invariant-loop-i : goal.invariant-loop-i
invariant-loop-i l = record {
  long : length l.lists ≡ l.signals;
  lists : AreSensitive (λ row. row.signals) l.processes l.i l.lists;
}
