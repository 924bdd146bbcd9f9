use Rattle.tdf_cluster_net.specs.Made.{AreRenamedPorts}
use Rattle.tdf_cluster_net.proofs.made.renamed_ports.Given as goal

abbrev pub invariant-loop-i : goal.invariant-loop-i
invariant-loop-i l = AreRenamedPorts l.numbers l.ports l.i l.own.items
