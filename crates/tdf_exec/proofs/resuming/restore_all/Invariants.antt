use Rattle.std.proofs.Common.{◌≡◌, length}
use Rattle.tdf_exec.specs.machine.Resuming.{AreRestored}
use Rattle.tdf_exec.specs.views.Actors.{spread_runners}
use Rattle.tdf_exec.proofs.resuming.restore_all.Given as goal

abbrev pub invariant-loop-i : goal.invariant-loop-i
invariant-loop-i l = record {
  same : length l.runners.items ≡ length l.initial.runners.items;
  restored : AreRestored l.flat.checked l.table l.modules l.i (spread_runners l.flat.tables l.numbers l.initial.runners.items) (spread_runners l.flat.tables l.numbers l.runners.items);
}
