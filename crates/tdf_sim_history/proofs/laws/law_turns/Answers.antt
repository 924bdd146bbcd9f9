use Rattle.tdf_sim_history.proofs.Turns.{turns_fault, turns_more, turns_none, turns_past}
use Rattle.tdf_sim_history.proofs.laws.law_turns.Goals as goal

pub returns : goal.returns
returns c = record {
  none = turns_none;
  more = turns_more;
  fault = λ turn n m w v fault u. turns_fault turn n m w v fault u;
  past = turns_past;
}
