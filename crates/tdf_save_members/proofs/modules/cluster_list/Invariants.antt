use Rattle.std.proofs.Common.{◌≡◌, map}
use Rattle.std.specs.List.{range_with_len}
use Rattle.tdf_save_members.specs.OfFlat.{cluster_members}
use Rattle.tdf_save_members.proofs.modules.cluster_list.Given as goal

abbrev pub invariant-loop-made : goal.invariant-loop-made
invariant-loop-made l = l.list.items ≡ map (cluster_members l.flat) (range_with_len 1 l.made)
