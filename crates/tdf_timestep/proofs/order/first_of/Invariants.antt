use Rattle.std.proofs.Common.{◌<◌}
use Rattle.std.specs.Prelude.{IfSome}
use Rattle.tdf_timestep.specs.views.Found.{IsFoundUpTo}
use Rattle.tdf_timestep.proofs.order.first_of.Given as goal

abbrev pub invariant-loop-place : goal.invariant-loop-place
invariant-loop-place l = record { found : IsFoundUpTo l.place l.assigned (λ _. Unit {0}) l.best; within : IfSome l.best (λ b. b < l.place) }
