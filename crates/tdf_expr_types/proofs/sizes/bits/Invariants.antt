-- No count so far was enough.
use Rattle.std.proofs.Common.{◌≡◌, ◌-◌}
use Rattle.tdf_expr_symbols.specs.Width.{bits_from}
use Rattle.tdf_expr_types.proofs.sizes.bits.Given as goal

abbrev pub invariant-loop-bits : goal.invariant-loop-bits
invariant-loop-bits l = bits_from l.n l.bits (60 - l.bits) ≡ bits_from l.n 0 60
