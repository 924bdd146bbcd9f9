use Rattle.tdf_expr_laws.proofs.Maps.{marks_map, notices_map, rates_map, steps_map}
use Rattle.tdf_expr_laws.proofs.laws.law_other_maps.Goals as goal

pub returns : goal.returns
returns c = record { rates = rates_map; steps = steps_map; notices = notices_map; marks = marks_map }
