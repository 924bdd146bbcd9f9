use Rattle.std.proofs.Common.{ℕ, Vec, Global, map}
use Rattle.tdf_save_reading.proofs.EventSteps.{IsNoneUpTo}
use Rattle.tdf_save_reading.proofs.events.first_event.Given as goal

abbrev pub invariant-loop-k : goal.invariant-loop-k
invariant-loop-k l = IsNoneUpTo (map (λ (z : Vec ℕ Global). z.items) l.names) l.k l.text
