use Rattle.std.proofs.Common.{◌≡◌, ◌++◌, take}
use Rattle.tdf_bind_connections.specs.Writers.{writers_at}
use Rattle.tdf_bind_connections.proofs.writers.put_places.Given as goal

abbrev pub invariant-loop-place : goal.invariant-loop-place
invariant-loop-place l = l.writers.items ≡ l.initial.writers.items ++ writers_at l.event l.signals (take l.place l.kinds)
