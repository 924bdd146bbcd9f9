use Rattle.std.proofs.Common.{take}
use Rattle.tdf_graph.specs.Parts.{AreLabels}
use Rattle.tdf_graph.proofs.numbering.connected.Given as goal

abbrev pub invariant-loop-edge : goal.invariant-loop-edge
invariant-loop-edge l = AreLabels l.fn.count (take l.edge-index l.edges) l.parts
