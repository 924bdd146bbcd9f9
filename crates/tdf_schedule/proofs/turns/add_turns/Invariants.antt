use Rattle.std.proofs.Common.{take}
use Rattle.tdf_schedule.specs.views.Table.{row_at}
use Rattle.tdf_schedule.specs.views.Turns.{GainsTurns}
use Rattle.tdf_schedule.proofs.turns.add_turns.Given as goal

abbrev pub invariant-loop-index : goal.invariant-loop-index
invariant-loop-index l = GainsTurns l.actor (take l.index (row_at l.table.items l.actor)) l.initial.levels.items l.levels.items
