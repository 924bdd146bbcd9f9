use Rattle.tdf_bind_names.proofs.Few.{counts_all}
use Rattle.tdf_bind_names.proofs.laws.law_counts.Goals as goal

pub returns : goal.returns
returns c = counts_all
