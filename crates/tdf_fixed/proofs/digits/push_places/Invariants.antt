-- What is written and what is left make up all the bits.
use Rattle.std.proofs.Common.{◌≡◌, ◌-◌, ◌≤◌, ◌++◌, take, length}
use Rattle.tdf_fixed.specs.Bits.{bits_text}
use Rattle.tdf_fixed.proofs.digits.push_places.Given as goal

abbrev pub invariant-loop-k : goal.invariant-loop-k
invariant-loop-k l = record {
  text : l.out.items ++ bits_text l.num (l.width - l.k) ≡ l.initial.out.items ++ bits_text l.num l.width;
  longer : length l.initial.out.items ≤ length l.out.items;
  kept : take (length l.initial.out.items) l.out.items ≡ l.initial.out.items;
}
