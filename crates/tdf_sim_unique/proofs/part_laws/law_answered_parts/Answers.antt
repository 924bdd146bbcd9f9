use Rattle.tdf_sim_unique.proofs.Answered.{answers_come_to_the_same, answers_have_snapshots}
use Rattle.tdf_sim_unique.proofs.part_laws.law_answered_parts.Goals as goal

pub returns : goal.returns
returns c = record {
  same = answers_come_to_the_same c.law_one_answer.ensures;
  snapshots = answers_have_snapshots c.law_one_answer.ensures;
}
