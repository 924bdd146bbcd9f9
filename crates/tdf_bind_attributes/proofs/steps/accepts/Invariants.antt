use Rattle.std.proofs.Common.{◌≡◌, drop, false}
use Rattle.tdf_bind_attributes.proofs.steps.accepts.Given as goal
use Rattle.tdf_bind_attributes.specs.Standing.{last_of, accepting}

abbrev pub invariant-loop-attr : goal.invariant-loop-attr
invariant-loop-attr l = last_of accepting l.accepts (drop l.attr-index l.attr-items) ≡ last_of accepting false l.attr-items
