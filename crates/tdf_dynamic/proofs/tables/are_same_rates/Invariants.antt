use Rattle.std.proofs.Common.{◌≡◌, ◌<◌, ℕ}
use Rattle.std.proofs.Math.ListN.{get_or}
use Rattle.tdf_dynamic.proofs.tables.are_same_rates.Given as goal

abbrev pub invariant-loop-i : goal.invariant-loop-i
invariant-loop-i l = (j : ℕ) → j < l.i → get_or l.frame.state.rates j 0 ≡ get_or l.before j 0
