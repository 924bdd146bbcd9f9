-- Where loops end.
use Rattle.std.proofs.Common.{◌≡◌, ◌∙◌, ℕ, ◌*◌, ◌≤◌, Bool, false, List, Option, Some, None, sym, ap, arith}
use Rattle.std.proofs.Math.Nat.{mul-le-mul}
use Rattle.std.proofs.lemmas.Bool.Decides.{nat_tests}
use Rattle.std.proofs.lemmas.Option.{slice_get_within}
use Rattle.std.specs.Prelude.{◌||◌, min, nat_lt, slice_get, slice_index}
use Rattle.tdf_base.specs.Limits.{greatest_rate as most_rate}
use Rattle.tdf_base.specs.declared.codes.Code.TheVariants as code
use Rattle.tdf_expr_compiler.specs.declared.numbers.Numbers.{Numbers}
use Rattle.tdf_expr_compiler.specs.machine.Acting.{IsEnd, IsRateEnd}
use Rattle.tdf_expr_compiler.specs.machine.Found.{IsFound}
use Rattle.tdf_base.proofs.Api.{if_none, none_first, none_second}
use Rattle.tdf_expr_machine.specs.declared.acts.Turns.{Turns}
use Rattle.tdf_expr_machine.specs.declared.acts.Turns.TheVariants as turns
use Rattle.tdf_expr_semantics.proofs.Api.{limits_placed, rate_var}
use Rattle.tdf_expr_semantics.specs.Bodies.{rate_at, rate_of}
use Rattle.tdf_expr_semantics.specs.Places.{rate_limits, rate_number}
use Rattle.tdf_expr_symbols.specs.Faults.{multiple_faults}
use Rattle.tdf_expr_symbols.specs.Index.{kind_faults}
use Rattle.tdf_expr_symbols.specs.Names.{Thing, RateVar, thing_of, found_at}
use Rattle.tdf_expr_symbols.specs.Scope.{Scope, OpenLoop, named, greatest_of}
use Rattle.tdf_expr_symbols.specs.declared.kinds.Place.TheVariants as place
use Rattle.tdf_lang_tree.specs.declared.stmt.Limit.TheVariants as limit

pub end_int : (scope : Scope) (loops : List OpenLoop) (n : ℕ) → IsEnd scope loops (limit.Int n) (turns.Fixed (min n 8192))
end_int scope loops n = record {
  at = λ line s sound none fits.
      let test : nat_lt most_rate n ≡ false = if_none (nat_lt most_rate n) code.Limit line none in
      let few : n ≤ 4096 = grind (arith, nat_tests) in
      (tt, omega (arith, few));
}

pub end_var : (scope : Scope) (loops : List OpenLoop) (name : List ℕ) (t : Turns) → IsRateEnd scope 1 name t → IsEnd scope loops (limit.Var name) t
end_var scope loops name t ends = record {
  at = λ line s sound none fits.
      let x = rate_var scope sound loops name line none in
      let there = ends.at x.least x.greatest x.start x.thing x.most (omega arith) s fits in
      (there.0, there.1 ∙ omega arith);
}

pub end_times : (scope : Scope) (loops : List OpenLoop) (c : ℕ) (name : List ℕ) (t : Turns) → IsRateEnd scope c name t → IsEnd scope loops (limit.Times c name) t
end_times scope loops c name t ends = record {
  at = λ line s sound none fits.
      let x = rate_var scope sound loops name line (none_first _ _ none) in
      let few = if_none (nat_lt c 1 || (nat_lt most_rate c || nat_lt most_rate (greatest_of scope.own (limit.Times c name)))) code.Limit line
      (none_second (kind_faults place.Limit (named scope loops name) line) (multiple_faults scope line c (limit.Times c name)) none) in
      ends.at x.least x.greatest x.start x.thing x.most (bound (nat_lt c 1) (nat_lt most_rate (greatest_of scope.own (limit.Times c name))) c few) s fits;
}
  where
    bound : (a b : Bool) (n : ℕ) → a || (nat_lt most_rate n || b) ≡ false → n ≤ 4096
    bound a b n e = grind (arith, nat_tests)

pub ruleset end_laws = (end_int, end_var, end_times)

some_thing : (t u : Thing) → Some t ≡ Some u → t ≡ u
some_thing t u e = ap held e
  where
    held : Option Thing → Thing
    held None = t
    held (Some x) = x

pub rate_end : (scope : Scope) (factor : ℕ) (name : List ℕ) (t : Thing) (p : Numbers) → IsFound scope.own name t p
    → IsRateEnd scope factor name (turns.Times (min factor 8192) p.rate)
rate_end scope factor name t p f = record {
  at = λ least greatest start is most few s fits.
      let same : t ≡ RateVar least greatest start = some_thing t (RateVar least greatest start) (sym f.is ∙ is) in
      let here : slice_get scope.own.things f.place ≡ Some (RateVar least greatest start) = ap (found_at scope.own.things) (sym f.at) ∙ is in
      let limits = limits_placed scope.own.things f.place least greatest start here in
      let bounds = fits.frame.rates.each (rate_number scope.own f.place) (record { least = least; greatest = greatest }) limits in
      let inside = slice_get_within (rate_limits scope.own) (rate_number scope.own f.place) _ limits in
      let cut : min factor 8192 ≡ factor = omega (arith, few) in
      let r = slice_index s.frame.rates (rate_number scope.own f.place) in
      let high : r ≤ 4096 = omega (arith, bounds.1, most) in
      let small : factor * r ≤ 4096 * 4096 = mul-le-mul few high in
      let value : rate_of scope.own s name ≡ r = ap (rate_at scope.own s) f.at in (
        rw (cut, f.numbered.rate) (omega (arith, inside, fits.frame.rates.long), omega (arith, small)),
        rw (cut, f.numbered.rate) (ap (λ n. factor * n) (sym value)),
      );
}

pub rate_missing : (scope : Scope) (factor : ℕ) (name : List ℕ) (t : Turns) → thing_of scope.own name ≡ None → IsRateEnd scope factor name t
rate_missing scope factor name t none = record { at = λ least greatest start is most few s fits. absurd (never least greatest start (sym none ∙ is)) }
  where
    never : (least greatest start : ℕ) → None ≡ Some (RateVar least greatest start) → ⊥
    never least greatest start e = absurd cc
