use Rattle.std.proofs.Common.{◌≡◌, take}
use Rattle.tdf_dynamic_values.specs.States.{state_flags}
use Rattle.tdf_dynamic_values.proofs.states.flags_of.Given as goal

abbrev pub invariant-loop-i : goal.invariant-loop-i
invariant-loop-i l = l.flags.items ≡ state_flags (take l.i l.modules)
