use Rattle.std.proofs.Common.{◌≡◌, replicate}
use Rattle.tdf_schedule.proofs.work.no_parts.Given as goal
use Rattle.tdf_schedule.specs.views.Parts.{no_part}

abbrev pub invariant-loop-made : goal.invariant-loop-made
invariant-loop-made l = l.parts.items ≡ replicate l.made no_part
