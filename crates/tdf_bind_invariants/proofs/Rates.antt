-- The rate of a port is in range with all values of the rate variables within their limits.
use Rattle.std.proofs.Common.{◌≡◌, ◌∙◌, ℕ, ◌*◌, ◌≤◌, List, Option, Some, None, refl, ap, subst, sym, arith}
use Rattle.std.proofs.Math.Nat.{mul-le-mul_left}
use Rattle.std.specs.Prelude.{slice_index}
use Rattle.tdf_base.specs.Limits.{greatest_rate as most_rate}
use Rattle.tdf_graph.specs.Ranges.{IsRate}
use Rattle.tdf_bind_invariants.specs.Limits.{IsAlwaysRate, times_value}
use Rattle.tdf_expr_semantics.proofs.Api.{found, thing_sound, limits_placed}
use Rattle.tdf_expr_semantics.specs.Places.{rate_limits, rate_number}
use Rattle.tdf_bind.specs.Below.{rate_of_limit, rate_of_port, variable_at, variable_of}
use Rattle.tdf_expr_symbols.specs.Names.{Names, Thing, Port, RateVar, place_of, thing_of}
use Rattle.tdf_expr_symbols.specs.Scope.{Scope, least_of, greatest_of, least_rate, greatest_rate_of}
use Rattle.tdf_expr_symbols.specs.Sound.{IsSound}
use Rattle.tdf_lang_tree.specs.declared.stmt.Limit.{Limit}
use Rattle.tdf_lang_tree.specs.declared.stmt.Limit.TheVariants as limit

-- a number times the value of a rate variable
var_always : (own : Names) (c : ℕ) (r : List ℕ) → 1 ≤ c * least_rate (thing_of own r) → c * greatest_rate_of (thing_of own r) ≤ most_rate
    → IsAlwaysRate (rate_limits own) (record { times = c; var = variable_of own r })
var_always own c r low high = go (thing_of own r) refl low high
  where
    go : (o : Option Thing) → thing_of own r ≡ o → 1 ≤ c * least_rate o → c * greatest_rate_of o ≤ most_rate
        → IsAlwaysRate (rate_limits own) (record { times = c; var = variable_of own r })
    go (Some (RateVar least greatest start)) is low high = λ values fit.
        let at = found own.things (place_of own r) (RateVar least greatest start) is in
        let var : variable_of own r ≡ Some (rate_number own at.0) =
        ap (λ (o : Option ℕ). variable_at own o (thing_of own r)) at.1 ∙ ap (variable_at own (Some at.0)) is in
        let bounds = fit.each (rate_number own at.0) (record { least = least; greatest = greatest })
        (limits_placed own.things at.0 least greatest start at.2) in
        let above : c * least ≤ c * slice_index values (rate_number own at.0) = mul-le-mul_left c bounds.0 in
        let below : c * slice_index values (rate_number own at.0) ≤ c * greatest = mul-le-mul_left c bounds.1 in
        subst (λ (o : Option ℕ). IsRate (times_value c values o)) (sym var)
        (record { some = omega (arith, low, above); few = omega (arith, high, below) })
    go _ is low high = absurd (omega (arith, low))

pub rate_always : (own : Names) (rate : Limit) → 1 ≤ least_of own rate → greatest_of own rate ≤ most_rate → IsAlwaysRate (rate_limits own) (rate_of_limit own rate)
unfolding least_of greatest_of
rate_always own (limit.Int n) low high = λ values fit. record { some = low; few = high }
rate_always own (limit.Var r) low high = var_always own 1 r (omega (arith, low)) (omega (arith, high))
rate_always own (limit.Times c r) low high = var_always own c r low high

-- the rate of a port of a sound block; 1 for a name that is no port
pub port_always : (scope : Scope) → IsSound scope → (name : List ℕ)
    → IsAlwaysRate (rate_limits scope.own) (rate_of_limit scope.own (rate_of_port (thing_of scope.own name)))
port_always scope sound name = go (thing_of scope.own name) refl
  where
    one : IsAlwaysRate (rate_limits scope.own) (rate_of_limit scope.own (limit.Int 1))
    one = λ values fit. record { some = omega arith; few = omega arith }

    go : (o : Option Thing) → thing_of scope.own name ≡ o → IsAlwaysRate (rate_limits scope.own) (rate_of_limit scope.own (rate_of_port o))
    go None is = one
    go (Some (Port word shape rate delay)) is =
        let holds = thing_sound scope sound name (Port word shape rate delay) is in
        rate_always scope.own rate holds.1 holds.2
    go (Some _) is = one
