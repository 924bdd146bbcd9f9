use Rattle.std.proofs.Common.{◌≡◌, take}
use Rattle.tdf_exec.specs.Traced.{traced_count}
use Rattle.tdf_exec.proofs.telling.traced_by.Given as goal

abbrev pub invariant-loop-j : goal.invariant-loop-j
invariant-loop-j l = l.count ≡ traced_count (take l.j l.list)
