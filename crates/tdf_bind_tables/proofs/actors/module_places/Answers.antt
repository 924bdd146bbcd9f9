use Rattle.tdf_bind_tables.proofs.ActorLoops.{modules_next}
use Rattle.tdf_bind_tables.proofs.actors.module_places.Goals as goal

pub loop-number-preserved : goal.loop-number-preserved
loop-number-preserved c = modules_next c.loop-number.number c.in_ok-row_number.field-0 c.loop-number.places.items c.push.new.self.items
    c.loop-number.invariant c.in_ok-row_number.ensures.number c.in_ok-push.ensures.items
