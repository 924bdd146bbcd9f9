use Rattle.std.proofs.Common.{length}
use Rattle.std.specs.Prelude.{slice_index}
use Rattle.tdf_schedule.specs.views.Table.{IsJoined, row_at}
use Rattle.tdf_schedule.proofs.join.greatest_need.Given as goal

abbrev pub invariant-loop-place : goal.invariant-loop-place
invariant-loop-place l = IsJoined l.edges (slice_index l.paces) l.table.items l.actor (length (row_at l.table.items l.actor)) l.inputs l.place l.key
