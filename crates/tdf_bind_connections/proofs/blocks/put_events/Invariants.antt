use Rattle.std.proofs.Common.{◌≡◌, ◌++◌, take}
use Rattle.std.specs.Prelude.{map}
use Rattle.tdf_bind_connections.specs.ProcessBlocks.{event_row}
use Rattle.tdf_bind_connections.proofs.blocks.put_events.Given as goal

abbrev pub invariant-loop-i : goal.invariant-loop-i
invariant-loop-i l = l.rows.items ≡ l.initial.rows.items ++ map (event_row l.owner) (take l.i l.names)
