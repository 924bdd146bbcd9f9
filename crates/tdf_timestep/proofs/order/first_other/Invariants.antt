use Rattle.std.proofs.Common.{◌<◌}
use Rattle.std.specs.Prelude.{IfSome}
use Rattle.tdf_timestep.specs.views.Found.{IsFoundUpTo, IsOther}
use Rattle.tdf_timestep.proofs.order.first_other.Given as goal

abbrev pub invariant-loop-place : goal.invariant-loop-place
invariant-loop-place l = record { found : IsFoundUpTo l.place l.assigned (IsOther l.net.ports.items l.counts l.period) l.best; within : IfSome l.best (λ b. b < l.place) }
