use Rattle.std.proofs.Common.{◌≡◌, map, take}
use Rattle.tdf_bind_tables.specs.Actors.{net_edge}
use Rattle.tdf_bind_tables.proofs.actors.net_edges.Given as goal

abbrev pub invariant-loop-i : goal.invariant-loop-i
invariant-loop-i l = l.net.items ≡ map net_edge (take l.i l.edges)
