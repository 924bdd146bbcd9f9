use Rattle.tdf_dynamic_plans.proofs.Keeping.{AreKeysBelow}
use Rattle.tdf_dynamic_plans.proofs.known.is_key_of.Given as goal

abbrev pub invariant-loop-i : goal.invariant-loop-i
invariant-loop-i l = AreKeysBelow l.key l.table l.i
