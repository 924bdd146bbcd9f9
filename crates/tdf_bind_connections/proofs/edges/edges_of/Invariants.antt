use Rattle.tdf_bind_connections.specs.machine.EdgeSteps.{EdgesUpTo}
use Rattle.tdf_bind_connections.proofs.edges.edges_of.Given as goal

abbrev pub invariant-loop-number : goal.invariant-loop-number
invariant-loop-number l = EdgesUpTo l.modules l.signals l.ports l.number l.actor l.edges.items
