use Rattle.std.proofs.Common.{◌≡◌, length}
use Rattle.tdf_places.specs.views.Mapped.{AreMappedUpTo}
use Rattle.tdf_places.proofs.places.places_of.Given as goal

abbrev pub invariant-loop-i : goal.invariant-loop-i
invariant-loop-i l = record {
  long : length l.by_number.items ≡ l.count;
  mapped : AreMappedUpTo l.i l.numbers l.by_number.items;
}
