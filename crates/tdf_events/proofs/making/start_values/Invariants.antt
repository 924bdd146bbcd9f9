use Rattle.std.proofs.Common.{◌≡◌, take, map}
use Rattle.tdf_events.proofs.making.start_values.Given as goal

abbrev pub invariant-loop-i : goal.invariant-loop-i
invariant-loop-i l = l.values.items ≡ map (λ row. row.start) (take l.i l.signals)
