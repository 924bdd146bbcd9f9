use Rattle.std.proofs.Common.{◌≡◌, ◌+◌, length}
use Rattle.tdf_schedule.specs.views.Entries.{IsCounted, HasOwnKeys}
use Rattle.tdf_schedule.proofs.sorted.push_row.Given as goal

abbrev pub invariant-loop-index : goal.invariant-loop-index
invariant-loop-index l = record { counted : IsCounted l.table.items l.actor l.index l.entries.items; keys : HasOwnKeys l.table.items l.entries.items; long : length l.entries.items ≡ length l.initial.entries.items + l.index }
