use Rattle.std.proofs.Common.{rules}
use Rattle.std.proofs.lemmas.List.Edits.{map_over_more}
use Rattle.tdf_cluster_net.specs.Own.{whole_entry}
use Rattle.tdf_cluster_net.proofs.whole.rename_entries.Goals as goal

pub loop-i-preserved : goal.loop-i-preserved
loop-i-preserved c = search (rules, map_over_more (whole_entry c.args.numbers.now))
