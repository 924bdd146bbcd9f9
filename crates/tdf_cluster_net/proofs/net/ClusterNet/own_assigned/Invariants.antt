use Rattle.std.proofs.Common.{◌≡◌, map, take}
use Rattle.std.specs.Prelude.{All}
use Rattle.tdf_cluster_net.specs.Own.{IsOwnSpot, whole_assign}
use Rattle.tdf_timestep.specs.Order.{spot_of}
use Rattle.tdf_cluster_net.proofs.net.ClusterNet.own_assigned.Given as goal

abbrev pub invariant-loop-i : goal.invariant-loop-i
invariant-loop-i l = record {
  are : map (whole_assign l.self) l.own.items ≡ take l.i l.assigned;
  inside : All (λ a. IsOwnSpot l.self (spot_of a)) l.own.items;
}
