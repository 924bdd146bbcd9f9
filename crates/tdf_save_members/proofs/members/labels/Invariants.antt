use Rattle.std.proofs.Common.{◌≡◌, ℕ, Vec, Global, map, take}
use Rattle.tdf_bind_connections.specs.declared.traces.TraceRow.{TraceRow}
use Rattle.tdf_save_members.proofs.members.labels.Given as goal

abbrev pub invariant-loop-i : goal.invariant-loop-i
invariant-loop-i l = map (λ (x : Vec ℕ Global). x.items) l.list.items ≡ map (λ (row : TraceRow). row.label) (take l.i l.flat.tables.traces)
