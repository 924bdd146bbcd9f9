use Rattle.std.proofs.Common.{◌≡◌, ◌∙◌, ◌≤◌, ◌<◌, ◌-◌, ◌*◌, ◌^◌, ℕ, ℤ, pos, negsuc, to_z, of_z, sym, subst, arith, rules}
use Rattle.std.proofs.Math.Nat.{pow-le-pow_right, mul-le-mul}
use Rattle.std.proofs.lemmas.Int.{to_z-of_z}
use Rattle.std.specs.Int.{w16, w128}
use Rattle.std.specs.Prelude.{unsigned_abs, FitsSigned}
use Rattle.tdf_expr.specs.Made.{AreMadeFor}
use Rattle.tdf_fixed.specs.Cast.{fraction_of}
use Rattle.tdf_tests_checks.proofs.tests.instances.put.Goals as goal

bounded : (z : ℤ) → FitsSigned w16 z → unsigned_abs z ≤ 2 ^ 15
bounded (pos n) fits = let small : n < 2 ^ 15 = fits.sfits in omega (arith, small)
bounded (negsuc n) fits = let small : n < 2 ^ 15 = fits.sfits in omega (arith, small)

product : (m f : ℕ) → m ≤ 2 ^ 15 → f ≤ 63 → m * 2 ^ (f - 0) ≤ 2 ^ 120
product m f small few =
    let less : f - 0 ≤ 63 = omega (arith, few) in
    let power : 2 ^ (f - 0) ≤ 2 ^ 63 = pow-le-pow_right (omega arith) less in
    let times : m * 2 ^ (f - 0) ≤ 2 ^ 15 * 2 ^ 63 = mul-le-mul small power in
    omega (arith, times)

pub cast-requires-clause-small : goal.cast-requires-clause-small
cast-requires-clause-small c =
    let here : to_z w16 (of_z w16 c.args.value) ≡ c.args.value = to_z-of_z w16 c.args.value c.ranges.value in
    let from : c.from.result ≡ c.args.value = c.from.ensures ∙ here in
    let again : to_z w128 (of_z w128 c.from.result) ≡ c.from.result = to_z-of_z w128 c.from.result (search rules) in
    let few : fraction_of c.port-span.result.format ≤ 63 = search rules in
    product (unsigned_abs (to_z w128 (of_z w128 c.from.result))) (fraction_of c.port-span.result.format)
    (subst (λ z. unsigned_abs z ≤ 2 ^ 15) (sym (again ∙ from)) (bounded c.args.value c.ranges.value)) few

pub returns-then-i-span : goal.returns-then-i-span
returns-then-i-span c =
    let set = c.set.ensures c.port-span.result c.port-span.ensures in
    subst (λ ports. AreMadeFor c.args.checked.now c.args.number c.args.frame.now ports) (sym set) (record {
      made = c.requires.made;
      block = c.requires.block;
      formats = c.requires.formats;
      rates = c.requires.rates;
      ports_are = c.requires.ports_are;
      events = c.requires.events;
    })
