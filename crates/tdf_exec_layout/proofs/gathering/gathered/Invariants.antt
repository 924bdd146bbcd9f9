use Rattle.tdf_exec_layout.specs.machine.Ends.{EndsUpTo}
use Rattle.tdf_exec_layout.proofs.gathering.gathered.Given as goal

abbrev pub invariant-loop-e : goal.invariant-loop-e
invariant-loop-e l = EndsUpTo l.tables l.e l.rows.items
