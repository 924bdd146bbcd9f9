use Rattle.tdf_cli_whole.proofs.Joining.{joined}
use Rattle.tdf_cli_whole.proofs.laws.law_save_and_resume.Goals as goal

pub returns : goal.returns
returns c = joined c.law_one_outcome.ensures c.law_first_fault.ensures.apart c.law_one_model.ensures c.law_one_run.ensures.models c.law_one_state.ensures c.law_rests_alike.ensures.valid c.law_rests_alike.ensures.answers
    c.law_limits.ensures c.law_runnable.ensures c.law_state_members.ensures.fit c.law_saved_runs.ensures c.law_split.ensures
