use Rattle.tdf_cli_whole.proofs.Splitting.{saved_runs_are_valid}
use Rattle.tdf_cli_whole.proofs.laws.law_saved_runs.Goals as goal

pub returns : goal.returns
returns c = saved_runs_are_valid c.law_limits.ensures c.law_runnable.ensures c.law_state_members.ensures.told c.law_in_formats.ensures.text c.law_sound.ensures.start c.law_columns.ensures.text c.law_saved_goes_on.ensures.valid c.law_saved_is_valid.ensures
