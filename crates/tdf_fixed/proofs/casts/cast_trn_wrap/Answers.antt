-- Every overflow mode gives a number of the range.
use Rattle.std.proofs.Common.{rules}
use Rattle.std.proofs.lemmas.Int.{to_z-of_z}
use Rattle.std.specs.Int.{w128}
use Rattle.std.specs.Prelude.{FitsSigned}
use Rattle.tdf_fixed.proofs.Ranges.{cast_in, in_small}
use Rattle.tdf_fixed.proofs.casts.cast_trn_wrap.Goals as goal

pub returns-clause-range : goal.returns-clause-range
returns-clause-range c =
    let fits : FitsSigned w128 c.cut_number.result = search rules in
    rw (to_z-of_z w128 c.cut_number.result fits) (rw c.cut_number.ensures (cast_in c.args.format _ c.args.value.frac))

pub returns-clause-small : goal.returns-clause-small
returns-clause-small c =
    let fits : FitsSigned w128 c.cut_number.result = search rules in
    rw (to_z-of_z w128 c.cut_number.result fits)
    (in_small c.args.format.signed c.args.format.wl c.cut_number.result c.args.format.some_bits c.args.format.few_bits
    (rw c.cut_number.ensures (cast_in c.args.format _ c.args.value.frac)))
