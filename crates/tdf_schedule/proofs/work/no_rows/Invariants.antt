use Rattle.std.proofs.Common.{◌≡◌, [], replicate}
use Rattle.tdf_schedule.proofs.work.no_rows.Given as goal

abbrev pub invariant-loop-made : goal.invariant-loop-made
invariant-loop-made l = l.rows.items ≡ replicate l.made []
