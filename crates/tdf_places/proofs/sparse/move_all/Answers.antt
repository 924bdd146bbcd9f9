use Rattle.std.proofs.Common.{rules}
use Rattle.std.proofs.lemmas.List.Edits.{map_over_more}
use Rattle.tdf_places.specs.views.Kept.{moved_by}
use Rattle.tdf_places.proofs.sparse.move_all.Goals as goal

pub loop-i-preserved : goal.loop-i-preserved
loop-i-preserved c = search (rules, map_over_more (moved_by c.args.places.now))
