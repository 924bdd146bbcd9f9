use Rattle.std.proofs.Common.{◌≡◌, length}
use Rattle.tdf_cluster_plans.proofs.groups.put_places.Given as goal

abbrev pub invariant-loop-i : goal.invariant-loop-i
invariant-loop-i l = length l.places.items ≡ length l.initial.places.items
