use Rattle.tdf_bind.proofs.Parts.{block_paths_are_unique, events_are_apart, paths_are_plain}
use Rattle.tdf_bind.proofs.laws.law_parts.Goals as goal

pub returns-clause-blocks : goal.returns-clause-blocks
returns-clause-blocks c = block_paths_are_unique

pub returns-clause-events : goal.returns-clause-events
returns-clause-events c = events_are_apart

pub returns-clause-plain : goal.returns-clause-plain
returns-clause-plain c = paths_are_plain
