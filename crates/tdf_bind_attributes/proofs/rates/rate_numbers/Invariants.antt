use Rattle.std.proofs.Common.{◌≡◌, ◌<◌, ℕ, length}
use Rattle.std.specs.Prelude.{slice_index}
use Rattle.tdf_expr_compiler.specs.Below.{before, rate_number, rates_of}
use Rattle.tdf_bind_attributes.proofs.rates.rate_numbers.Given as goal

abbrev pub invariant-loop-place : goal.invariant-loop-place
invariant-loop-place l = record {
  long : length l.numbers.items ≡ l.place;
  each : (n : ℕ) → n < l.place → slice_index l.numbers.items n ≡ rate_number l.scope.own n;
  count : l.count ≡ before rates_of l.scope.own.things l.place;
}
