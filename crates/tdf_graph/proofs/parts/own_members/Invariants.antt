use Rattle.tdf_graph.specs.views.Rows.{AreRows}
use Rattle.tdf_graph.proofs.parts.own_members.Given as goal

abbrev pub invariant-loop-actor : goal.invariant-loop-actor
invariant-loop-actor l = AreRows l.actor l.members.items
