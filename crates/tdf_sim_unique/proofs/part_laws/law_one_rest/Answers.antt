use Rattle.tdf_sim_unique.proofs.Rests.{rests_are_told, rests_write_one}
use Rattle.tdf_sim_unique.proofs.part_laws.law_one_rest.Goals as goal

pub returns : goal.returns
returns c = record {
  same = rests_write_one c.law_alike_parts.ensures.goes c.law_alike_parts.ensures.valid c.law_alike_parts.ensures.worlds c.law_alike_parts.ensures.plans
      c.law_answered_parts.ensures.same c.law_resumed.ensures.start;
  told = rests_are_told c.law_alike_parts.ensures.goes c.law_alike_parts.ensures.worlds;
}
