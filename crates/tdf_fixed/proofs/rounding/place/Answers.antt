-- Both ways between counts of fraction bits.
use Rattle.std.proofs.Common.{◌-◌, ◌^◌, ◌*ℤ◌, pos, ◌∙◌, ap, sym, arith, rules}
use Rattle.std.proofs.lemmas.Int.{to_z-of_z}
use Rattle.std.specs.Int.{w128}
use Rattle.std.specs.Prelude.{FitsSigned}
use Rattle.tdf_fixed.specs.Quantise.{quantised}
use Rattle.tdf_fixed.proofs.Scaling.{placed_up, placed_down}
use Rattle.tdf_fixed.proofs.rounding.place.Goals as goal

pub returns-then-from-to : goal.returns-then-from-to
returns-then-from-to c =
    let fits : FitsSigned w128 c.scaled.result = search rules in
    to_z-of_z w128 c.scaled.result fits ∙ c.scaled.ensures
    ∙ ap (λ n. n *ℤ pos (2 ^ (c.args.to - c.args.from))) (to_z-of_z w128 c.args.num c.ranges.num)
    ∙ sym (placed_up c.args.quant c.args.num c.args.from c.args.to (omega arith))

pub returns-else-from-to : goal.returns-else-from-to
returns-else-from-to c =
    let fits : FitsSigned w128 c.quantise.result = search rules in
    to_z-of_z w128 c.quantise.result fits ∙ c.quantise.ensures
    ∙ ap (λ n. quantised c.args.quant n (2 ^ (c.args.from - c.args.to))) (to_z-of_z w128 c.args.num c.ranges.num)
    ∙ sym (placed_down c.args.quant c.args.num c.args.from c.args.to (omega arith))
