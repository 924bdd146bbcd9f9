-- The first fault of one line after another.
use Rattle.tdf_base.proofs.Api.{least_none, least_append, least_if}

pub ruleset line_laws = (least_none, least_append, least_if)
