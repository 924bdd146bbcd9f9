use Rattle.tdf_cli.proofs.Complete.{has_one_outcome}
use Rattle.tdf_cli.proofs.laws.law_one_outcome.Goals as goal

pub returns : goal.returns
returns c = has_one_outcome c.law_first_fault.ensures.one c.law_first_fault.ensures.apart c.law_one_model.ensures c.law_one_run.ensures.models c.law_one_run.ensures.answers
    c.law_tables.ensures.one_table c.law_tables.ensures.one_fault c.law_tables.ensures.not_both
    c.law_early_fault.ensures.one_of_text c.law_early_fault.ensures.text_apart c.law_tree_fault.ensures.one c.law_tree_fault.ensures.apart
    c.law_parts_alike.ensures.parts c.law_parts_alike.ensures.snapshots c.law_rests_alike.ensures.members c.law_one_state.ensures c.law_rests_alike.ensures.rests
