use Rattle.tdf_cli_words.proofs.Worked.{are_refused, are_short_runs}
use Rattle.tdf_cli_words.proofs.laws.law_worked.Goals as goal

pub returns : goal.returns
returns c = record { runs = are_short_runs; refused = are_refused }
