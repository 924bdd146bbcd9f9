use Rattle.std.proofs.Common.{◌≡◌, take}
use Rattle.tdf_schedule.specs.views.Table.{total}
use Rattle.tdf_schedule.proofs.sorted.firings.Given as goal

abbrev pub invariant-loop-actor : goal.invariant-loop-actor
invariant-loop-actor l = l.count ≡ total (take l.actor l.table.items)
