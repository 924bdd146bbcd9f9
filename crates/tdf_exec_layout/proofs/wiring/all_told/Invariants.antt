use Rattle.tdf_exec_layout.specs.machine.Ends.{ToldUpTo}
use Rattle.tdf_exec_layout.proofs.wiring.all_told.Given as goal

abbrev pub invariant-loop-m : goal.invariant-loop-m
invariant-loop-m l = ToldUpTo l.actors l.m l.initial.rows.items l.rows.items l.wires.items
