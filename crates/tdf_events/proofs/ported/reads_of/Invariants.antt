use Rattle.std.proofs.Common.{◌≡◌, take}
use Rattle.tdf_events.specs.machine.Reading.{read_from}
use Rattle.tdf_events.proofs.ported.reads_of.Given as goal

abbrev pub invariant-loop-place : goal.invariant-loop-place
invariant-loop-place l = l.list.items ≡ read_from 0 (take l.place l.ports.spans)
