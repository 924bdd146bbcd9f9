use Rattle.std.proofs.Common.{length, take, arith}
use Rattle.tdf_sampling.proofs.Measuring.{has_room, measured_place, row_many, take_few}
use Rattle.tdf_sampling.proofs.groups.measure.Goals as goal
use Rattle.tdf_sampling.specs.machine.Windows.{rows_of}

pub add_row-requires-clause-many : goal.add_row-requires-clause-many
add_row-requires-clause-many c =
    row_many (length c.args.columns.now.items) (length c.loop-place.columns.items) c.args.rows.now c.loop-place.place _ c.requires.rows (omega arith) c.loop-place.invariant.many

pub add_row-requires-clause-room : goal.add_row-requires-clause-room
add_row-requires-clause-room c =
    has_room (length c.args.columns.now.items) (rows_of (take c.loop-place.place c.args.rows.now)) c.loop-place.columns.items c.loop-place.invariant (omega (arith, take_few c.args.rows.now c.loop-place.place))

pub loop-place-preserved : goal.loop-place-preserved
loop-place-preserved c =
    measured_place (length c.args.columns.now.items) c.args.rows.now c.loop-place.place _ c.loop-place.columns.items c.add_row.new.columns.items c.loop-place.invariant c.requires.rows (omega arith) c.add_row.ensures
