use Rattle.tdf_graph.specs.views.Numbering.{NumberedUpTo}
use Rattle.tdf_graph.proofs.numbering.numbered.Given as goal

abbrev pub invariant-loop-actor : goal.invariant-loop-actor
invariant-loop-actor l = NumberedUpTo l.actor l.last l.parts l.table.items l.numbers.items
