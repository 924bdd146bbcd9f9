use Rattle.tdf_sim_resumed.proofs.Good.{resumed_good}
use Rattle.tdf_sim_resumed.proofs.Quiet.{none_due_before, still}
use Rattle.tdf_sim_resumed.proofs.laws.law_resumed.Goals as goal

pub returns : goal.returns
returns c = record { due = none_due_before; still = still; start = resumed_good }
