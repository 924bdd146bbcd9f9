use Rattle.tdf_cli_whole.proofs.Splitting.{accepted_runs_split}
use Rattle.tdf_cli_whole.proofs.laws.law_split.Goals as goal

pub returns : goal.returns
returns c = accepted_runs_split c.law_limits.ensures c.law_runnable.ensures c.law_state_members.ensures.told c.law_numbers.ensures c.law_plannable.ensures c.law_one_answer.ensures c.law_answered_parts.ensures.snapshots c.law_unbroken.ensures
