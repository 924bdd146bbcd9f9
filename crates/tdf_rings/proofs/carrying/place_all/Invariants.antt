use Rattle.std.proofs.Common.{◌≡◌, ◌≤◌, ℕ, length, slice_index_or}
use Rattle.std.specs.Prelude.{None}
use Rattle.tdf_rings.specs.views.Fresh.{AreCarriedUpTo}
use Rattle.tdf_rings.proofs.carrying.place_all.Given as goal

abbrev pub invariant-loop-e : goal.invariant-loop-e
invariant-loop-e l = record {
  carried : AreCarriedUpTo l.bounds l.e l.initial.rings l.rings;
  same : length l.fresh ≡ length l.initial.fresh;
  left : (k : ℕ) → l.e ≤ k → slice_index_or l.fresh k None ≡ slice_index_or l.initial.fresh k None;
}
