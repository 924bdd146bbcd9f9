use Rattle.std.proofs.Common.{◌≡◌, length, take}
use Rattle.tdf_exec.specs.machine.Starting.{AreTakenBy, HoldsText}
use Rattle.tdf_exec.specs.views.Actors.{spread_runners}
use Rattle.tdf_exec.proofs.beginning.first_runners.Given as goal

abbrev pub invariant-loop-i : goal.invariant-loop-i
invariant-loop-i l = record {
  long : length l.runners.items ≡ l.i;
  taken : AreTakenBy l.flat (HoldsText l.flat l.begins) l.cluster l.numbers l.i l.initial.wires.items l.wires.items l.samplers (spread_runners l.flat.tables (take l.i l.numbers) l.runners.items);
}
