use Rattle.tdf_timestep.specs.views.Broken.{IsFirstAmong, IsSeen}
use Rattle.tdf_timestep.proofs.exact.first_actor.Given as goal

abbrev pub invariant-loop-actor : goal.invariant-loop-actor
invariant-loop-actor l = IsFirstAmong l.net.ports.items l.counts l.period (IsSeen l.net.ports.items l.actor 0) l.best
