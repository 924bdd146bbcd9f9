use Rattle.tdf_sim_shown.proofs.saved.add_later.Given as goal
use Rattle.tdf_sim_shown.specs.machine.Waiting.{HaveLater}

abbrev pub invariant-loop-k : goal.invariant-loop-k
invariant-loop-k l = HaveLater l.tables l.tracking.list l.k l.initial.columns.items l.columns.items
