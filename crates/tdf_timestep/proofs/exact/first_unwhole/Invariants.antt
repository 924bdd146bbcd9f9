use Rattle.std.proofs.Common.{length}
use Rattle.tdf_timestep.specs.views.Broken.{IsFirstAmong, IsSeen}
use Rattle.tdf_timestep.proofs.exact.first_unwhole.Given as goal

abbrev pub invariant-loop-number : goal.invariant-loop-number
invariant-loop-number l = IsFirstAmong l.net.ports.items l.counts l.period (IsSeen l.net.ports.items (length l.counts) l.number) l.best
