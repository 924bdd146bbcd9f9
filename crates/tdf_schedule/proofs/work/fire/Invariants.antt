use Rattle.std.proofs.Common.{◌≡◌, length}
use Rattle.std.specs.Prelude.{slice_index}
use Rattle.tdf_schedule.specs.views.Parts.{AreParts}
use Rattle.tdf_schedule.specs.views.Table.{row_at}
use Rattle.tdf_schedule.specs.views.Work.{AreRows, HasGrown}
use Rattle.tdf_schedule.proofs.work.fire.Given as goal

abbrev pub invariant-loop-firing : goal.invariant-loop-firing
invariant-loop-firing l = record {
  long : length (row_at l.table.items l.actor) ≡ l.firing;
  rows : AreRows l.given.edges.now (slice_index l.given.paces.now) l.given.counts.now l.table.items;
  parts : AreParts l.given.edges.now (slice_index l.given.paces.now) l.given.counts.now l.table.items l.given.inputs.now l.parts.items;
  grown : HasGrown l.actor l.initial.table.items l.table.items;
}
