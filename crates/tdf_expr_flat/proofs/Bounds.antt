-- The bounds of a range of at most 62 bits.
use Rattle.tdf_expr_cuts.proofs.Api.{small_power}

pub ruleset bound_laws = (small_power)
