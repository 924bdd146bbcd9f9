use Rattle.std.proofs.Common.{◌≡◌, ◌++◌}
use Rattle.std.specs.List.{flat_map, range_with_len}
use Rattle.tdf_sim.proofs.Printing.{text_at}
use Rattle.tdf_sim.proofs.sim.push_clusters.Given as goal

abbrev pub invariant-loop-made : goal.invariant-loop-made
invariant-loop-made l = l.out.items ≡ l.initial.out.items ++ flat_map (text_at l.flat l.firsts.items) (range_with_len 0 l.made)
