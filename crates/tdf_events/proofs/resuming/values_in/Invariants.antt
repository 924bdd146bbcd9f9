use Rattle.std.proofs.Common.{map}
use Rattle.tdf_events.proofs.resuming.values_in.Given as goal
use Rattle.tdf_events.specs.machine.Resuming.{AreValuesIn}

abbrev pub invariant-loop-i : goal.invariant-loop-i
invariant-loop-i l = AreValuesIn (map (λ row. row.format) l.signals) l.nums l.i l.values.items
