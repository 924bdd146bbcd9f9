use Rattle.tdf_bind.proofs.OneAnswer.{flat_paths_are_unique, paths_are_unique}
use Rattle.tdf_bind.proofs.laws.law_paths.Goals as goal

pub returns-clause-paths : goal.returns-clause-paths
returns-clause-paths c = paths_are_unique

pub returns-clause-flat_paths : goal.returns-clause-flat_paths
returns-clause-flat_paths c = flat_paths_are_unique
