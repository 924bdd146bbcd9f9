use Rattle.std.proofs.Common.{◌≡◌, ◌-◌}
use Rattle.tdf_stim.specs.Driven.{free_from}
use Rattle.tdf_stim.specs.machine.Maps.{holds}
use Rattle.tdf_stim.proofs.names.Names.free.Given as goal

abbrev pub invariant-loop-k : goal.invariant-loop-k
invariant-loop-k l = free_from (holds l.self) (l.tries - l.k) l.k ≡ free_from (holds l.self) l.tries 0
