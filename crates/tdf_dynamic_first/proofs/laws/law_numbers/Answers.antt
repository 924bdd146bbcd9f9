use Rattle.tdf_dynamic_first.proofs.Numbers.{clusters_whole}
use Rattle.tdf_dynamic_first.proofs.laws.law_numbers.Goals as goal

pub returns : goal.returns
returns c tables cluster wired some low = clusters_whole tables cluster wired some low
