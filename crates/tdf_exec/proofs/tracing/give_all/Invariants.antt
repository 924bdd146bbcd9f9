use Rattle.std.proofs.Common.{◌≡◌, length}
use Rattle.tdf_exec.specs.machine.Tracing.{AreGivenTraced}
use Rattle.tdf_exec.specs.views.Actors.{spread_runners}
use Rattle.tdf_exec.proofs.tracing.give_all.Given as goal

abbrev pub invariant-loop-i : goal.invariant-loop-i
invariant-loop-i l = record {
  same : length l.runners.items ≡ length l.initial.runners.items;
  given : AreGivenTraced l.tables l.attrs.rows l.numbers l.i l.initial.rows.items l.rows.items (spread_runners l.tables l.numbers l.initial.runners.items) (spread_runners l.tables l.numbers l.runners.items);
}
