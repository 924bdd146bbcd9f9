use Rattle.std.proofs.Common.{◌≡◌, length, take}
use Rattle.tdf_schedule.specs.views.Table.{total}
use Rattle.tdf_schedule.specs.views.Entries.{IsCounted, HasOwnKeys}
use Rattle.tdf_schedule.proofs.sorted.entries_by_actor.Given as goal

abbrev pub invariant-loop-actor : goal.invariant-loop-actor
invariant-loop-actor l = record { counted : IsCounted l.table.items l.actor 0 l.entries.items; keys : HasOwnKeys l.table.items l.entries.items; long : length l.entries.items ≡ total (take l.actor l.table.items) }
