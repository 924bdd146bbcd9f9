-- What is written and what is left make up the whole fraction.
use Rattle.std.proofs.Common.{◌≡◌, ◌-◌, ◌<◌, ◌≤◌, ◌^◌, ◌++◌, take, length}
use Rattle.tdf_fixed.specs.Decimal.{fraction_digits}
use Rattle.tdf_fixed.proofs.decimals.push_many_digits.Given as goal

abbrev pub invariant-loop-k : goal.invariant-loop-k
invariant-loop-k l = record {
  below : l.left < 2 ^ l.frac;
  text : l.out.items ++ fraction_digits (l.frac - l._k) l.left (2 ^ l.frac) ≡ l.initial.out.items ++ fraction_digits l.frac l.rest (2 ^ l.frac);
  longer : length l.initial.out.items ≤ length l.out.items;
  kept : take (length l.initial.out.items) l.out.items ≡ l.initial.out.items;
}
