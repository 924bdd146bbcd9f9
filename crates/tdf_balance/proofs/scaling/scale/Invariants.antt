use Rattle.tdf_balance.specs.views.Scaled.{ScaledUpTo}
use Rattle.tdf_balance.proofs.scaling.scale.Given as goal

abbrev pub invariant-loop-actor : goal.invariant-loop-actor
invariant-loop-actor l = ScaledUpTo l.actor-index l.factor l.actors l.initial.counts.items l.counts.items
