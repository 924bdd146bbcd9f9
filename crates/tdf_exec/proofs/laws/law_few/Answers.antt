use Rattle.tdf_exec.proofs.Few.{clusters_hold_few}
use Rattle.tdf_exec.proofs.Rooms.{room_is_there}
use Rattle.tdf_exec.proofs.laws.law_few.Goals as goal

pub returns-clause-few : goal.returns-clause-few
returns-clause-few c = clusters_hold_few c.law_edges.ensures.rows c.law_edges.ensures.once c.law_rates.ensures.ports c.law_rates.ensures.samplers c.law_rates.ensures.sinks

pub returns-clause-room : goal.returns-clause-room
returns-clause-room c = room_is_there
