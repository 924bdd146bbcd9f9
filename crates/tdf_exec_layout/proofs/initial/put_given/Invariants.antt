use Rattle.std.proofs.Common.{◌≡◌, drop}
use Rattle.tdf_exec_layout.specs.machine.Initials.{given_to}
use Rattle.tdf_exec_layout.proofs.initial.put_given.Given as goal

abbrev pub invariant-loop-i : goal.invariant-loop-i
invariant-loop-i l = given_to (drop l.i l.given) l.samples.items ≡ given_to l.given l.initial.samples.items
