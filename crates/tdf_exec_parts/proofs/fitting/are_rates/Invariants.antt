use Rattle.tdf_exec_parts.proofs.Fits.{AreWithin}
use Rattle.tdf_exec_parts.proofs.fitting.are_rates.Given as goal
use Rattle.tdf_expr.specs.Made.{rate_spans_of}

abbrev pub invariant-loop-i : goal.invariant-loop-i
invariant-loop-i l = AreWithin (rate_spans_of l.checked l.block) l.rates l.i
