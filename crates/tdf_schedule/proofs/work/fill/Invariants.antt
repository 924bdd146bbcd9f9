use Rattle.std.specs.Prelude.{slice_index}
use Rattle.tdf_schedule.specs.views.Parts.{AreParts}
use Rattle.tdf_schedule.specs.views.Work.{AreRows, IsWorked, weight}
use Rattle.tdf_schedule.proofs.work.fill.Given as goal

abbrev pub invariant-loop-actor : goal.invariant-loop-actor
invariant-loop-actor l = record {
  rows : AreRows l.given.edges.now (slice_index l.given.paces.now) l.given.counts.now l.table.items;
  parts : AreParts l.given.edges.now (slice_index l.given.paces.now) l.given.counts.now l.table.items l.given.inputs.now l.parts.items;
  worked : IsWorked l.given.edges.now l.given.counts.now l.table.items l.work.stack.items l.work.on.items;
}

abbrev pub decreases-loop-actor : goal.decreases-loop-actor
decreases-loop-actor l = weight l.given.edges.now l.given.counts.now l.table.items l.work.stack.items
