-- The sum so far, with the instances that are left.
use Rattle.std.proofs.Common.{◌≡◌, drop}
use Rattle.tdf_bind_names.proofs.counts.count_block.Given as goal
use Rattle.tdf_bind_names.specs.machine.Counts.{counted}

abbrev pub invariant-loop-instance : goal.invariant-loop-instance
invariant-loop-instance l = counted l.counts l.weights l.total (drop l.instance-index l.instance-items) ≡ counted l.counts l.weights l.start l.instance-items
