-- Two plans are the same.
-- Source: own.
use Rattle.std.specs.Prelude.{◌≡◌}
use Rattle.tdf_schedule.specs.declared.entry.Plan.{Plan}

-- the same entries, bounds and period
pub record AreSamePlans (one other : Plan) : Type 0 where
  pub entries : one.entries.items ≡ other.entries.items
  pub bounds : one.bounds.items ≡ other.bounds.items
  pub period : one.period ≡ other.period
