use Rattle.tdf_graph.specs.views.Rows.{RelabelledUpTo}
use Rattle.tdf_graph.proofs.parts.relabel.Given as goal

abbrev pub invariant-loop-actor : goal.invariant-loop-actor
invariant-loop-actor l = RelabelledUpTo l.actor-index l.kept l.list l.initial.labels.items l.labels.items
