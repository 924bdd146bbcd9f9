use Rattle.std.proofs.Common.{◌<◌, arith, length, map}
use Rattle.std.proofs.lemmas.List.{length-map}
use Rattle.tdf_stim.proofs.Building.{columns_none, columns_step}
use Rattle.tdf_stim.proofs.Loops.{seen_at}
use Rattle.tdf_stim.specs.machine.Maps.{seen}
use Rattle.tdf_tables.specs.Rows.{row_of}
use Rattle.tdf_stim.proofs.columns.push_columns.Goals as goal

pub loop-source-init : goal.loop-source-init
loop-source-init c = columns_none (map row_of c.args.rows.now) (map seen c.args.sources.now) _ _ c.in_ok-cells.ensures

pub loop-source-preserved : goal.loop-source-preserved
loop-source-preserved c =
    let within : c.loop-source.source-index < length (map seen c.args.sources.now) = omega (arith, length-map c.args.sources.now seen, c.loop-source-test.true) in
    columns_step (map row_of c.args.rows.now) (map seen c.args.sources.now) c.loop-source.source-index c.loop-source.number c.in_ok-number.number (seen c.source-item.result) _ _ _ _ _
    within (seen_at c.args.sources.now c.loop-source.source-index c.source-item.result c.loop-source-test.true c.source-item.is) c.loop-source.invariant
    (rw c.as_slice.ensures.value at c.in_ok-number.ensures.lines) c.in_ok-number.ensures.number c.next_column.ensures
