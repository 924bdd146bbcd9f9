use Rattle.tdf_bind_names.proofs.Bounds.{refers_back}
use Rattle.tdf_bind_names.proofs.counts.is_too_many.Goals as goal
use Rattle.tdf_lang_tree.specs.Views.{pure_tree}

pub is_any_past-requires : goal.is_any_past-requires
is_any_past-requires c = refers_back (pure_tree c.args.tree.now) c.args.blocks.now.items c.requires
