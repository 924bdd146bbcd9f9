-- The multiple below is no further from 0 than a 64-bit number may be.
use Rattle.std.proofs.Common.{◌≡◌, ℕ, ◌^◌, ◌≤◌, ℤ, pos, ◌*ℤ◌, ◌∙◌, ap, sym, subst, of_z, to_z, rules}
use Rattle.std.proofs.lemmas.Int.{to_z-of_z}
use Rattle.std.specs.Int.{w64}
use Rattle.std.specs.Prelude.{FitsSigned}
use Rattle.tdf_fixed.specs.Quantise.{below}
use Rattle.tdf_fixed.proofs.Shorts.{back_fits}
use Rattle.tdf_fixed.proofs.short.back.Goals as goal

same : (floor unit num : ℤ) (s : ℕ) → FitsSigned w64 floor → FitsSigned w64 unit → to_z w64 (of_z w64 num) ≡ num
    → floor ≡ below (to_z w64 (of_z w64 num)) (2 ^ s) → unit ≡ pos (2 ^ s)
    → to_z w64 (of_z w64 floor) *ℤ to_z w64 (of_z w64 unit) ≡ below num (2 ^ s) *ℤ pos (2 ^ s)
same floor unit num s f u n is is_unit =
    ap (λ z. z *ℤ to_z w64 (of_z w64 unit)) (to_z-of_z w64 floor f ∙ is ∙ ap (λ z. below z (2 ^ s)) n)
    ∙ ap (λ z. below num (2 ^ s) *ℤ z) (to_z-of_z w64 unit u ∙ is_unit)

product : (floor unit num : ℤ) (s : ℕ) → FitsSigned w64 floor → FitsSigned w64 unit → FitsSigned w64 num
    → floor ≡ below (to_z w64 (of_z w64 num)) (2 ^ s) → unit ≡ pos (2 ^ s) → s ≤ 62
    → FitsSigned w64 (to_z w64 (of_z w64 floor) *ℤ to_z w64 (of_z w64 unit))
product floor unit num s f u n is is_unit few =
    subst (λ z. FitsSigned w64 z) (sym (same floor unit num s f u (to_z-of_z w64 num n) is is_unit)) (back_fits num s few n)

pub overflow_mul-result : goal.overflow_mul-result
overflow_mul-result c =
    let floor : FitsSigned w64 c.floor.result = search rules in
    let unit : FitsSigned w64 c.unit.result = search rules in
    product c.floor.result c.unit.result c.args.num c.args.s floor unit c.ranges.num c.floor.ensures c.unit.ensures.value c.requires

pub returns : goal.returns
returns c =
    let floor : FitsSigned w64 c.floor.result = search rules in
    let unit : FitsSigned w64 c.unit.result = search rules in
    let fits = product c.floor.result c.unit.result c.args.num c.args.s floor unit c.ranges.num c.floor.ensures c.unit.ensures.value c.requires in
    to_z-of_z w64 (to_z w64 (of_z w64 c.floor.result) *ℤ to_z w64 (of_z w64 c.unit.result)) fits
    ∙ same c.floor.result c.unit.result c.args.num c.args.s floor unit (to_z-of_z w64 c.args.num c.ranges.num) c.floor.ensures c.unit.ensures.value
