use Rattle.std.proofs.Common.{◌≡◌, ◌∷◌, map, take}
use Rattle.tdf_dynamic_first.specs.Text.{port_step}
use Rattle.tdf_dynamic_first.proofs.table.steps_of.Given as goal

abbrev pub invariant-loop-i : goal.invariant-loop-i
invariant-loop-i l = l.steps.items ≡ l.own ∷ map (port_step l.ports) (take l.i l.numbers)
