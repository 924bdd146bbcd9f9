-- The first of faults, piece by piece.
use Rattle.tdf_base.proofs.Api.{least_none, least_append, least_if}

pub ruleset least_laws = (least_none, least_append, least_if)
