-- Every overflow mode gives a number of the range.
use Rattle.std.proofs.Common.{rules}
use Rattle.std.proofs.lemmas.Int.{to_z-of_z}
use Rattle.std.specs.Int.{w128}
use Rattle.std.specs.Prelude.{FitsSigned}
use Rattle.tdf_fixed.proofs.Ranges.{in_range}
use Rattle.tdf_fixed.proofs.literals.cast_literal.Goals as goal

pub returns-clause-range : goal.returns-clause-range
returns-clause-range c =
    let fits : FitsSigned w128 c.overflow.result = search rules in
    rw (to_z-of_z w128 c.overflow.result fits) (rw c.overflow.ensures (in_range c.args.format.over c.args.format.signed c.args.format.wl _ c.args.format.some_bits))
