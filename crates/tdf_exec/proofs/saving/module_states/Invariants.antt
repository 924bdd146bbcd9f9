use Rattle.std.proofs.Common.{◌≡◌, map, take}
use Rattle.tdf_exec.specs.Played.{runner_cells}
use Rattle.tdf_exec.specs.Saved.{module_state}
use Rattle.tdf_exec.proofs.saving.module_states.Given as goal

abbrev pub invariant-loop-i : goal.invariant-loop-i
invariant-loop-i l = l.states.items ≡ map (module_state (map runner_cells l.actors.runners)) (take l.i l.table)
