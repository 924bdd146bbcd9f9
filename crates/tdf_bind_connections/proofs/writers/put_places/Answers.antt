use Rattle.tdf_bind_connections.proofs.Lists.{filtered_next, any_default}
use Rattle.tdf_bind_connections.specs.Writers.{place_writer}
use Rattle.tdf_bind_connections.proofs.writers.put_places.Goals as goal

pub loop-place-preserved : goal.loop-place-preserved
loop-place-preserved c = filtered_next (place_writer c.args.event c.args.signals.now) c.args.kinds.now c.loop-place.place _ c.args.writers.now.items c.loop-place.writers.items c.put_place.new.writers.items
    c.loop-place-test.true c.loop-place.invariant (any_default c.args.kinds.now c.loop-place.place _ _ c.loop-place-test.true) c.in_ok-put_place.ensures
