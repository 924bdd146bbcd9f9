use Rattle.std.proofs.Common.{◌≡◌, ◌++◌, drop, map, take}
use Rattle.tdf_cluster_net.specs.Own.{whole_entry}
use Rattle.tdf_cluster_net.proofs.whole.rename_entries.Given as goal

abbrev pub invariant-loop-i : goal.invariant-loop-i
invariant-loop-i l = l.entries.items ≡ map (whole_entry l.numbers) (take l.i l.initial.entries.items) ++ drop l.i l.initial.entries.items
