use Rattle.tdf_sim_unique.proofs.Saved.{parts_write_one}
use Rattle.tdf_sim_unique.proofs.part_laws.law_one_part.Goals as goal

pub returns : goal.returns
returns c = parts_write_one c.law_alike_parts.ensures.goes c.law_alike_parts.ensures.snapshots c.law_answered_parts.ensures.same c.law_answered_parts.ensures.snapshots c.law_one_snapshot.ensures
