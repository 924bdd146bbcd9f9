-- Models that can be run.
-- Source: own.
use Rattle.tdf_lang_parser.specs.Formed.{IsFormed}
use Rattle.tdf_sim.specs.Accepted.{IsAccepted}
use Rattle.tdf_sim.specs.declared.sim.Sim.{Sim}
use Rattle.tdf_lang_tree.specs.Kept.{IsKept}
use Rattle.tdf_lang_tree.specs.Pure.{PureTree}

-- a tree without a fault, which has what the tree of each text has, and its model
pub record IsAcceptedTree (tree : PureTree) (sim : Sim) : Type 0 where
  pub kept : IsKept tree
  pub formed : IsFormed tree
  pub accepted : IsAccepted tree sim

-- a model that some tree has
pub record IsSomeAccepted (sim : Sim) : Type 0 where
  pub tree : PureTree
  pub of : IsAcceptedTree tree sim
