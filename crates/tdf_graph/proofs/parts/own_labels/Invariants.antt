use Rattle.tdf_graph.specs.Parts.{AreAlone}
use Rattle.tdf_graph.proofs.parts.own_labels.Given as goal

abbrev pub invariant-loop-actor : goal.invariant-loop-actor
invariant-loop-actor l = AreAlone l.actor l.labels.items
