use Rattle.tdf_schedule.specs.views.Turns.{AreByLevel}
use Rattle.tdf_schedule.proofs.turns.turns_by_level.Given as goal

abbrev pub invariant-loop-actor : goal.invariant-loop-actor
invariant-loop-actor l = AreByLevel l.actor l.table.items l.levels.items
