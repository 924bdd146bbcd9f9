use Rattle.tdf_stim_binding.proofs.Shape.{driven_tree_is}
use Rattle.tdf_stim_binding.proofs.laws.law_tree.Goals as goal

pub returns : goal.returns
returns c = driven_tree_is
