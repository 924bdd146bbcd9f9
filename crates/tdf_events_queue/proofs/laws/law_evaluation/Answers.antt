use Rattle.tdf_events_queue.proofs.Skips.{by_list}
use Rattle.tdf_events_queue.proofs.laws.law_evaluation.Goals as goal

pub returns : goal.returns
returns c = λ run flags list s rising. by_list run flags list rising s
