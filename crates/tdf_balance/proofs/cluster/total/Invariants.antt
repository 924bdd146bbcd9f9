use Rattle.std.proofs.Common.{◌≡◌, ◌≤◌, ◌*◌, take}
use Rattle.std.specs.Prelude.{sum}
use Rattle.tdf_base.specs.Limits.{most_firings}
use Rattle.tdf_balance.proofs.cluster.total.Given as goal

abbrev pub invariant-loop-count : goal.invariant-loop-count
invariant-loop-count l = record { is : l.total ≡ sum (take l.count-index l.counts); small : l.total ≤ l.count-index * most_firings }
