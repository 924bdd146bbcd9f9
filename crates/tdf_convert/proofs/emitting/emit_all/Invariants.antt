use Rattle.std.proofs.Common.{◌≡◌, ◌++◌, map, take}
use Rattle.tdf_convert.specs.Emitted.{write_of_sent}
use Rattle.tdf_convert.proofs.emitting.emit_all.Given as goal

abbrev pub invariant-loop-i : goal.invariant-loop-i
invariant-loop-i l = l.writes ≡ record l.initial.writes { list = l.initial.writes.list ++ map (write_of_sent l.links) (take l.i l.sent) }
