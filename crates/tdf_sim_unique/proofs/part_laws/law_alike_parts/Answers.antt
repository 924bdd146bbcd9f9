use Rattle.tdf_sim_unique.proofs.Flats.{flats_go_as_one, flats_have_snapshots}
use Rattle.tdf_sim_unique.proofs.Plans.{plans_say_one_world}
use Rattle.tdf_sim_unique.proofs.States.{flats_have_members, flats_have_valid, flats_say_worlds}
use Rattle.tdf_sim_unique.proofs.part_laws.law_alike_parts.Goals as goal

pub returns : goal.returns
returns c = record {
  goes = flats_go_as_one;
  snapshots = flats_have_snapshots;
  valid = flats_have_valid;
  worlds = flats_say_worlds;
  members = flats_have_members;
  plans = plans_say_one_world c.law_counts.ensures.apart c.law_counts.ensures.unique c.law_plans.ensures.plans c.law_plans.ensures.bounds c.law_one_table.ensures c.law_numbers.ensures;
}
