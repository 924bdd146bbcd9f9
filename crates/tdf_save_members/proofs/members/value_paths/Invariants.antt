use Rattle.std.proofs.Common.{◌≡◌, ℕ, Vec, Global, map, take}
use Rattle.tdf_bind_connections.specs.declared.drivers.SignalRow.{SignalRow}
use Rattle.tdf_save_members.proofs.members.value_paths.Given as goal

abbrev pub invariant-loop-i : goal.invariant-loop-i
invariant-loop-i l = map (λ (x : Vec ℕ Global). x.items) l.list.items ≡ map (λ (row : SignalRow). row.path) (take l.i l.flat.tables.de_signals)
