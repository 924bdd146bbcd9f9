use Rattle.std.proofs.Common.{◌≡◌, ◌<◌, ℕ, Some}
use Rattle.std.specs.Prelude.{slice_get}
use Rattle.tdf_dynamic_plans.specs.Known.{KnownOf, table_key}
use Rattle.tdf_dynamic_plans.proofs.known.found_in.Given as goal

abbrev pub invariant-loop-i : goal.invariant-loop-i
invariant-loop-i l = (j : ℕ) (k : KnownOf) → j < l.i → slice_get l.plans j ≡ Some k → k.key ≡ table_key l.table → ⊥
