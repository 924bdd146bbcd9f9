use Rattle.std.proofs.Common.{refl}
use Rattle.std.specs.Prelude.{slice_index}
use Rattle.tdf_schedule.proofs.Parts.{parts_start}
use Rattle.tdf_schedule.proofs.Works.{rows_start, worked_start}
use Rattle.tdf_schedule.proofs.work.fill.Goals as goal

pub loop-actor-init : goal.loop-actor-init
loop-actor-init c = record {
  rows = rows_start c.args.given.now.edges.now (slice_index c.args.given.now.paces.now) c.args.given.now.counts.now c.in_ok-table.table.items _ refl c.in_ok-table.ensures;
  parts = parts_start c.args.given.now.edges.now (slice_index c.args.given.now.paces.now) c.args.given.now.counts.now c.in_ok-table.table.items c.args.given.now.inputs.now c.in_ok-parts.parts.items c.in_ok-parts.ensures;
  worked = worked_start c.args.given.now.edges.now (slice_index c.args.given.now.paces.now) c.args.given.now.counts.now c.in_ok-table.table.items _ _
      (rows_start c.args.given.now.edges.now (slice_index c.args.given.now.paces.now) c.args.given.now.counts.now c.in_ok-table.table.items _ refl c.in_ok-table.ensures) c.in_ok-work.ensures;
}
