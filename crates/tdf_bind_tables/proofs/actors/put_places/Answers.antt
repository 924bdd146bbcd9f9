use Rattle.tdf_bind_tables.specs.Actors.{port_actor}
use Rattle.tdf_bind_connections.proofs.Api.{filtered_next}
use Rattle.std.proofs.Common.{◌++◌, ◌∙◌, ap, []}
use Rattle.std.specs.List.{cons_option}
use Rattle.tdf_bind_tables.proofs.actors.put_places.Goals as goal

pub loop-number-preserved : goal.loop-number-preserved
loop-number-preserved c = filtered_next port_actor c.args.ports.now c.loop-number.number c.index-ports-number.result c.args.places.now.items c.loop-number.places.items c.put_place.new.places.items
    c.loop-number-test.true c.loop-number.invariant c.index-ports-number.is (c.in_ok-put_place.ensures ∙ ap (λ o. c.loop-number.places.items ++ cons_option o []) c.in_ok-place.ensures)
