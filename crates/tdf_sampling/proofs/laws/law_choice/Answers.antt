use Rattle.tdf_sampling.proofs.Thin.{once, twice}
use Rattle.tdf_sampling.proofs.laws.law_choice.Goals as goal

pub returns-clause-once : goal.returns-clause-once
returns-clause-once c = once

pub returns-clause-twice : goal.returns-clause-twice
returns-clause-twice c = λ a b rows some more. twice a b rows some more
